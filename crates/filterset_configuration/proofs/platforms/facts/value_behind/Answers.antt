use Rattle.std.proofs.{Common.◌∷◌, Common.ap, Common.sym, Common.◌∙◌, Common.lit<, lemmas.Str.Pattern.strip_suffix_char}
use Rattle.filterset_json.specs.Shape.{Text}
use Rattle.filterset_configuration.proofs.PlatformLines.{value_found}
use Rattle.filterset_configuration.proofs.platforms.facts.value_behind.Goals as goal

pub returns : goal.returns
returns c =
    let cut = c.in_ok-strip_prefix.ensures.cases in
    value_found c.args.text.now c.in_ok-strip_prefix.field-0.now _ (cut.1.1 ∙ ap (λ (t : Text). 61 ∷ 34 ∷ t) (sym cut.2))
    (strip_suffix_char 34 _ _ c.strip_suffix.ensures.cases (lit< tt))
