use Rattle.std.proofs.Common.{◌∙◌, ◌++◌, ap}
use Rattle.std.specs.Prelude.{codes}
use Rattle.serde_json.specs.View.{view}
use Rattle.filterset_display.specs.Columns.{Text}
use Rattle.filterset_verdicts.proofs.VerdictJsonLemmas.{verdict_has_no_float}
use Rattle.filterset_verdicts.proofs.json.verdict_line.Goals as goal

pub returns : goal.returns
returns c =
    let decided = c.args.decided.now in
    let d = view c.in_ok-value.value in
    let compact = c.in_ok-text.ensures.text (verdict_has_no_float decided.question decided.is_listed c.args.graph.now decided.verdict d c.in_ok-value.ensures) in
    (d, c.in_ok-value.ensures, c.in_ok-push_str.ensures.bytes ∙ ap (λ (t : Text). t ++ codes "\n") compact)
