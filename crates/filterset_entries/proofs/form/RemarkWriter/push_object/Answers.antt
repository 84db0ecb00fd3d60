use Rattle.std.proofs.Common.{◌++◌, ◌∙◌, ap, append_assoc, string_bytes}
use Rattle.std.specs.Prelude.{codes}
use Rattle.serde_json.specs.View.{view}
use Rattle.filterset_entries.proofs.RowsLemmas.{remark_has_no_float}
use Rattle.filterset_entries.proofs.form.RemarkWriter.push_object.Goals as goal

pub returns : goal.returns
returns c =
    let d = view c.in_ok-object.object in
    let said = c.in_ok-object.ensures in
    let text = c.as_str.ensures.value ∙ c.in_ok-line.ensures.text (remark_has_no_float _ _ _ _ _ d said) in
    let old = string_bytes c.args.output.now in
    let pushed = c.in_ok-push_str.ensures.bytes ∙ ap (λ t. old ++ t) text in
    (d, said, c.in_ok-push_str-2.ensures.bytes ∙ ap (λ t. t ++ codes "\n") pushed ∙ append_assoc old _ (codes "\n"))
