use Rattle.std.proofs.Common.{subst}
use Rattle.filterset_display.specs.Columns.{Text}
use Rattle.filterset_configuration.specs.Places.{ArePlaces}
use Rattle.filterset_sources.specs.Configurations.{IsConfiguration, configured_rows}
use Rattle.filterset_loading.proofs.configuration.read_configuration_file.Goals as goal

pub returns-clause-read : goal.returns-clause-read
returns-clause-read g c =
    let configuration = c.in-Ok.configuration in
    let IsHere : Text → Type 0 = λ bytes. IsConfiguration bytes configuration in
    let ArePlacesIn : Text → Type 0 = λ bytes. ArePlaces bytes (configured_rows configuration.filtersets.items) c.in_ok-places.places.places.items in (
      c.in_ok-text.ensures.whole,
      subst IsHere c.as_str.ensures.value c.in-Ok.ensures.read,
      subst ArePlacesIn c.as_str-2.ensures.value c.in_ok-places.ensures,
    )
