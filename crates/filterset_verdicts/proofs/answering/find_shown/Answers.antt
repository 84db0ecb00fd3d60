use Rattle.std.proofs.Common.{Option}
use Rattle.std.specs.Prelude.{IfNone, IfSome}
use Rattle.filterset_deciding.specs.{Listed.IsFirstUnmet, Listed.IsMetByAll, declared.witness.Witness.Witness}
use Rattle.filterset_expression.specs.Contexts.{default_of}
use Rattle.filterset_verdicts.proofs.VerdictLemmas.{both_ok, some_or_none}
use Rattle.filterset_verdicts.proofs.answering.find_shown.Goals as goal

pub returns : goal.returns
returns c =
    let tests = c.in_ok-tests.tests.items in
    let names = c.in_ok-names.names.items in
    let question = c.args.asked.now.question in
    let given = c.args.within.now in
    let default = default_of c.args.context.now in
    let exprs = c.args.exprs.now in
    let First : Witness → Type 0 = λ witness. IsFirstUnmet question given default exprs tests names witness.test witness.picks.items in
    let Met : Type 0 = IsMetByAll question given default exprs tests names in
    both_ok c.find_listed.result (λ (found : Option Witness). IfSome found First) (λ (found : Option Witness). IfNone found Met) _ (λ found some none. (
      tests,
      c.in_ok-tests.ensures,
      (names, c.in_ok-names.ensures, some_or_none found Met First some none),
    ))
    (rw (c.of-listed.ensures.tests, c.of-listed.ensures.groups, c.as_slice.ensures.value, c.as_slice-2.ensures.value) at c.find_listed.ensures.some)
    (rw (c.of-listed.ensures.tests, c.of-listed.ensures.groups, c.as_slice.ensures.value, c.as_slice-2.ensures.value) at c.find_listed.ensures.none)
