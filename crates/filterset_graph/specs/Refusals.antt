-- What an error says about the packages.
use Rattle.std.specs.Prelude.{List}
use Rattle.filterset_graph.specs.declared.package.PackageMetadata.{PackageMetadata}
use Rattle.filterset_graph.specs.declared.refusal.GraphRefusal.{GraphRefusal}
use Rattle.filterset_graph.specs.declared.refusal.GraphRefusal.TheVariants.{RepeatedId, UnknownLink, OutOfMemory}
use Rattle.filterset_graph.specs.Packages.{ids, IsFirstRepeat, AllDiffer, IsFirstUnknownLink}

-- the refusal is true of the packages
abbrev pub IsRefusalOf : List PackageMetadata → GraphRefusal → Type 0
IsRefusalOf packages (RepeatedId at) = IsFirstRepeat (ids packages) at
IsRefusalOf packages (UnknownLink owner link) = AllDiffer (ids packages) × IsFirstUnknownLink packages owner link
IsRefusalOf packages (OutOfMemory error) = Unit {0}
