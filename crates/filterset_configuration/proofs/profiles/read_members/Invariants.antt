use Rattle.std.proofs.Common.{◌≡◌, ◌++◌, List}
use Rattle.std.specs.List.{AllZip}
use Rattle.toml.specs.{Data.Data, View.members_view, View.view}
use Rattle.toml.proofs.Views.{Entry}
use Rattle.filterset_configuration.specs.Profiles.{IsProfile}
use Rattle.filterset_configuration.proofs.Zips.{members_by}
use Rattle.filterset_configuration.proofs.profiles.read_members.Given as goal

-- the profiles so far
abbrev pub invariant-loop-name : goal.invariant-loop-name
invariant-loop-name l =
    (done : List Entry) × (l.members.entries ≡ done ++ l.name-iterator) × (ds : List Data)
    × (members_view done ≡ members_by l.profiles.items ds) × AllZip (IsProfile (view l.file)) ds l.profiles.items
