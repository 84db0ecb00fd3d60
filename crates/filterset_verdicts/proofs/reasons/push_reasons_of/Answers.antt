use Rattle.std.proofs.Common.{Global, String, map, refl, string_bytes, subst, sym}
use Rattle.std.proofs.lemmas.Result.{on_ok_weaker}
use Rattle.filterset_answers.specs.Picking.{parsed_of}
use Rattle.filterset_deciding.specs.declared.deciding.Verdict.{Verdict}
use Rattle.filterset_expression.specs.Contexts.{default_of}
use Rattle.filterset_verdicts.specs.Reasons.{AreReasons, reason_lines}
use Rattle.filterset_verdicts.proofs.ReasonLemmas.{reasons_of_trees}
use Rattle.filterset_verdicts.proofs.reasons.push_reasons_of.Goals as goal

pub returns-in_ok-reasons-in-Fails : goal.returns-in_ok-reasons-in-Fails
returns-in_ok-reasons-in-Fails c =
    let packages = c.args.graph.now in
    let default = default_of c.args.context.now in
    let filters = c.args.filtersets.now in
    let query = c.query-query.result in
    let group = string_bytes c.in-Fails.witness.test.group in
    let texts = c.in_ok-reasons-in-Fails.reasons.items in
    let reasons = map (λ (s : String Global). string_bytes s) texts in
    let rest = reason_lines 1 reasons in
    let of_group = rw c.as_str-group.ensures.value at c.in_ok-reasons-in-Fails.ensures in
    let pushed = rw c.as_slice.ensures.value at c.push_reasons.ensures in
    on_ok_weaker c.push_reasons.result (λ written. (
      rest,
      written,
      λ compiled. subst (λ (verdict : Verdict). AreReasons packages default (map parsed_of filters) verdict rest) (sym c.in-Fails.is)
          (query, reasons, c.query-query.ensures.is_of, reasons_of_trees packages default query group filters texts of_group compiled, refl),
    )) pushed
