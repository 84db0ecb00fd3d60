use Rattle.std.proofs.Common.{◌∙◌, ap, subst, sym}
use Rattle.filterset_language.specs.Views.{tree_of}
use Rattle.filterset_listing.specs.Explaining.{IsExplanation}
use Rattle.filterset_entries.specs.Endings.{unknown_ending}
use Rattle.filterset_answers.proofs.explaining.explain_parsed.Goals as goal

pub returns : goal.returns
returns c basis is of_overrides =
    let packages = c.args.setting.now.graph.now in
    let tree = tree_of c.args.filter.now.parsed in
    let explanation = c.in_ok-explanation.explanation in
    let explained = c.in_ok-explanation.ensures c.requires.compiled in
    let by_default = subst (λ e. IsExplanation c.args.candidate c.args.overrides.now packages e tree explanation) (c.new-context.ensures ∙ sym is) explained in
    let own = subst (λ os. IsExplanation c.args.candidate os packages basis.default tree explanation) (sym of_overrides) by_default in
    (explanation, own, c.in_ok-explain_text.ensures, c.unknown_ending.ensures ∙ ap unknown_ending c.is_unknown.ensures)
