use Rattle.std.proofs.Common.{◌≡◌, vec_len}
use Rattle.filterset_sources.specs.Configurations.{configured_rows}
use Rattle.filterset_configuration.specs.Places.{ArePlacesAmong}
use Rattle.filterset_configuration.proofs.places.places_among.Given as goal

abbrev pub invariant-loop-at : goal.invariant-loop-at
invariant-loop-at l = record {
  count : vec_len l.places ≡ l.at;
  places : ArePlacesAmong l.file l.numbering.literals.items (configured_rows l.filtersets) (configured_rows l.others) l.places.items;
}
