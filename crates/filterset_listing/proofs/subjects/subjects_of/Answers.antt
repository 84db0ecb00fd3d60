use Rattle.std.proofs.{Common.subst, Common.sym, Common.take, lemmas.List.take_all}
use Rattle.filterset_expression.specs.Contexts.{default_of}
use Rattle.filterset_listing.proofs.{ListingLemmas.one_more, SubjectLemmas.Parts-push}
use Rattle.filterset_listing.specs.{Overrides.AreLaid, Subjects.AreOfBinary, Subjects.no_parts}
use Rattle.filterset_listing.proofs.subjects.subjects_of.Goals as goal

pub loop-binary-init : goal.loop-binary-init
loop-binary-init c default overrides are = rw c.new-subjects.ensures.items no_parts

pub loop-binary-preserved : goal.loop-binary-preserved
loop-binary-preserved c default overrides are =
    let binaries = c.args.binaries.now in
    let i = c.loop-binary.binary-index in
    let binary = c.binary-item.result in
    let one = c.in_ok-push_binary.ensures default overrides (subst (AreLaid default overrides) (sym c.deref.ensures.value) are) in
    rw (one.1, one_more binaries i binary c.loop-binary-test.true (sym c.binary-item.is))
    (Parts-push (AreOfBinary default overrides) (take i binaries) binary _ one.0 (c.loop-binary.invariant default overrides are) one.2)

pub returns : goal.returns
returns c = rw (take_all c.loop-binary.binary-index c.args.binaries.now c.loop-binary-test.false) at
    (c.loop-binary.invariant (default_of c.args.context.now) c.args.overrides.now c.in_ok-laid.ensures)
