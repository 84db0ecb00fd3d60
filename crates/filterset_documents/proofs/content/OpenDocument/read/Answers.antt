use Rattle.std.proofs.Common.{◌∙◌, ap, refl, subst, sym}
use Rattle.filterset_display.specs.declared.source.Source.{Source}
use Rattle.filterset_display.specs.Positions.{Text}
use Rattle.filterset_configuration.specs.{Places.ArePlaces, declared.places.Places.Places}
use Rattle.filterset_sources.specs.Configurations.{configured_rows}
use Rattle.filterset_documents.specs.Filtersets.{AreTextsOf}
use Rattle.filterset_documents.proofs.content.OpenDocument.read.Goals as goal

abbrev text_of : Source → Text
text_of s = s.text.now

pub returns-then-is_list-clause-read : goal.returns-then-is_list-clause-read
returns-then-is_list-clause-read c = λ rows are.
    let (file, same, is) = are in
    rw c.if-is_list.true (file, ap text_of same ∙ c.in_ok-file.ensures.text, refl, is)

pub returns-clause-read : goal.returns-clause-read
returns-clause-read c = λ rows are.
    let text = c.args.text.now in
    let configuration = c.in_ok-configuration.configuration in
    let (texts, (file, filtersets, places), is) = are in
    let Placed : Places → Type 0 = λ p. ArePlaces text (configured_rows configuration.filtersets.items) p.places.items in
    let texts_of : AreTextsOf text configuration texts =
    (ap text_of file ∙ c.in_ok-file.ensures.text, filtersets, subst Placed (sym places) c.in_ok-places.ensures) in
    rw c.if-is_list.false (configuration, texts, c.in_ok-configuration.ensures.read, texts_of, refl, is)
