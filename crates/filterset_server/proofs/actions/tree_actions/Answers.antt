use Rattle.std.proofs.Common.{◌≡◌, ◌∙◌, ◌++◌, ap, map, string_bytes, subst}
use Rattle.std.specs.Prelude.{codes}
use Rattle.std.proofs.lemmas.List.{map-append}
use Rattle.serde_json.specs.View.{view}
use Rattle.filterset_display.specs.Positions.{Text}
use Rattle.filterset_grammar.specs.Printing.{printed}
use Rattle.filterset_language.specs.Views.{tree_of}
use Rattle.filterset_rewriting.specs.Showing.{shown}
use Rattle.filterset_server.specs.{Actions.RewriteActions, Subjects.target_row}
use Rattle.filterset_server.proofs.actions.tree_actions.Goals as goal

pub returns : goal.returns
returns c =
    let target = target_row c.args.target.now in
    let tree = tree_of c.args.tree.now in
    let values = c.in_ok-values.values.items in
    let more = c.in_ok-more.more.items in
    let last = c.in_ok-last.last.items in
    let plain : c.as_str-printed.result.now ≡ printed tree = c.as_str-printed.ensures.value ∙ c.in_ok-printed.ensures.ok in
    let enclosed : c.as_str-shown.result.now ≡ printed (shown tree) = c.as_str-shown.ensures.value ∙ c.in_ok-shown-2.ensures.ok ∙ ap printed c.in_ok-shown.ensures.tree in
    let Formats : Text → Type 0 = λ new. RewriteActions target (codes "Format this filterset") c.args.target.now.text.now new (map view values) in
    let Shows : Text → Text → Type 0 = λ other new. RewriteActions target (codes "Add parentheses") other new (map view more) in
    let spelled : c.as_str-spelled.result.now ≡ string_bytes c.in_ok-spelled.spelled = c.as_str-spelled.ensures.value in
    let Spells : Text → Text → Type 0 = λ other new. RewriteActions target (codes "Write without `^`") other new (map view last) in (
      map view values,
      map view more,
      map view last,
      string_bytes c.in_ok-spelled.spelled,
      subst Formats plain c.in_ok-values.ensures,
      subst (Shows (printed tree)) enclosed (subst (λ other. Shows other c.as_str-shown.result.now) plain c.in_ok-more.ensures),
      c.in_ok-spelled.ensures,
      subst (Spells (printed tree)) spelled (subst (λ other. Spells other c.as_str-spelled.result.now) plain c.in_ok-last.ensures),
      ap (map view) (c.in_ok-append-2.ensures.items ∙ ap (λ vs. vs ++ last) c.in_ok-append.ensures.items)
          ∙ map-append view (values ++ more) last ∙ ap (λ ds. ds ++ map view last) (map-append view values more),
    )
