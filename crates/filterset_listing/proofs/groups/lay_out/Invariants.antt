use Rattle.std.proofs.Common.{◌≡◌, map, take}
use Rattle.std.specs.Prelude.{All}
use Rattle.filterset_expression.specs.Contexts.{default_of}
use Rattle.filterset_listing.specs.{Overrides.IsLaid, declared.groups.FlatOverride.FlatOverride}
use Rattle.filterset_listing.proofs.groups.lay_out.Given as goal

-- the overrides so far are laid out
abbrev pub invariant-loop-given : goal.invariant-loop-given
invariant-loop-given l =
    (map (λ (f : FlatOverride). f.given) l.laid.items ≡ take l.given-index l.overrides) × All (IsLaid (default_of l.context)) l.laid.items
