use Rattle.std.proofs.Common.{rules, arith, ◌≡◌, ◌<◌, get_or, length}
use Rattle.std.proofs.lemmas.List.{take_all}
use Rattle.filterset_server.proofs.EditLemmas.{rewrites_next}
use Rattle.filterset_server.proofs.edits.edits_of.Goals as goal

pub returns : goal.returns
returns c =
    let are = c.loop-i.invariant in
    rw (
      take_all c.loop-i.i c.args.entries.now c.loop-i-test.false,
      take_all c.loop-i.i c.args.texts.now (omega (arith, c.loop-i-test.false, c.requires)),
    ) at are

pub loop-i-preserved : goal.loop-i-preserved
loop-i-preserved c =
    let entries = c.args.entries.now in
    let texts = c.args.texts.now in
    let i = c.loop-i.i in
    let entry = c.index-entries-i.result in
    let lt : i < length entries = omega (arith, c.loop-i-test.true) in
    let within : i < length texts = omega (arith, c.loop-i-test.true, c.requires) in
    let at : get_or entries i entry ≡ entry = search (rules, c.index-entries-i.is) in
    rewrites_next entries texts i entry _ _ _ lt within at c.loop-i.invariant c.in_ok-push_edit.ensures
