use Rattle.std.proofs.Common.{List, subst, ◌∙◌}
use Rattle.filterset_sources.specs.Configurations.{configured_rows}
use Rattle.filterset_sources.specs.declared.configuration.ConfiguredFilterset.{ConfiguredFilterset}
use Rattle.filterset_configuration.specs.Places.{ArePlacesAmong}
use Rattle.filterset_configuration.proofs.PlaceLemmas.{places-all}
use Rattle.filterset_configuration.proofs.places.Places.of.Goals as goal

pub returns-in_ok-places-in-Ok : goal.returns-in_ok-places-in-Ok
returns-in_ok-places-in-Ok c =
    let file = c.args.file.now in
    let own = c.args.configuration.now.filtersets.items in
    let literals = c.in-Some.numbering.literals.items in
    let places = c.in_ok-places-in-Ok.places.items in
    let among = subst (λ (fs : List ConfiguredFilterset). ArePlacesAmong file literals (configured_rows fs) (configured_rows c.as_slice-others.result.now) places)
    c.as_slice-filtersets.ensures.value c.in_ok-places-in-Ok.ensures in
    let apart = rw c.in-Some.is at c.in_ok-numbering.ensures.apart in
    let made = rw c.in-Some.is at c.in_ok-numbering.ensures.text in
    places-all file (configured_rows own) places literals c.as_str.result.now c.in-Ok.other apart (c.as_str.ensures.value ∙ made) c.in-Ok.ensures.read
    (subst (λ (os : List ConfiguredFilterset). ArePlacesAmong file literals (configured_rows own) (configured_rows os) places) c.as_slice-others.ensures.value among)
