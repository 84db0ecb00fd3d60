use Rattle.std.proofs.Common.{◌≡◌, ◌++◌, map}
use Rattle.toml.specs.View.{members_view}
use Rattle.filterset_configuration.specs.Circles.{link_row, links_of}
use Rattle.filterset_configuration.proofs.circles.links_of.Given as goal

-- the links of the other profiles are left
abbrev pub invariant-loop-name : goal.invariant-loop-name
invariant-loop-name l = map link_row l.links.items ++ links_of (members_view l.name-iterator) ≡ links_of (members_view l.profiles.entries)
