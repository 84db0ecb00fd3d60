use Rattle.std.proofs.Common.{rules, arith, ◌≡◌, ◌<◌, Global, Option, String, length, get_or, string_bytes, take}
use Rattle.std.proofs.lemmas.List.{take_all}
use Rattle.filterset_expression.specs.Contexts.{default_of}
use Rattle.nextest_filtering.specs.declared.filterset.Filterset.{Filterset}
use Rattle.filterset_answers.specs.Overriding.{IsReasonFor}
use Rattle.filterset_entries.proofs.RowsLemmas.{AllZip-push, one_more}
use Rattle.filterset_answers.proofs.overriding.reasons_of.Goals as goal

pub returns : goal.returns
returns c =
    let all = c.loop-made.invariant in
    rw (take_all c.loop-made.made-index c.args.filters.now c.loop-made-test.false) at all

pub loop-made-preserved : goal.loop-made-preserved
loop-made-preserved c =
    let filters = c.args.filters.now in
    let i = c.loop-made.made-index in
    let made = c.made-item.result in
    let lt : i < length filters = omega (arith, c.loop-made-test.true) in
    let at : get_or filters i made ≡ made = search (rules, c.made-item.is) in
    let R : Option Filterset → String Global → Type 0 = λ made reason. IsReasonFor c.args.query.now c.args.setting.now (default_of c.args.context.now) made (string_bytes reason) in
    rw (c.in_ok-push.ensures.items, one_more filters i made lt at) (AllZip-push R (take i filters) _ made _ c.loop-made.invariant c.in_ok-reason_of.ensures)
