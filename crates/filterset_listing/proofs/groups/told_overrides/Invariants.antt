use Rattle.std.proofs.Common.{map, take}
use Rattle.std.specs.Prelude.{All}
use Rattle.filterset_expression.specs.declared.expression.CompiledExpr.{CompiledExpr}
use Rattle.filterset_listing.specs.Overrides.{IsLaid, MayApply, given_of}
use Rattle.filterset_listing.specs.declared.groups.FlatOverride.{FlatOverride}
use Rattle.filterset_listing.proofs.GroupLemmas.{StandFor}
use Rattle.filterset_listing.proofs.groups.told_overrides.Given as goal

-- the rows stand for the overrides so far
abbrev pub invariant-loop-laid : goal.invariant-loop-laid
invariant-loop-laid l =
    (default : CompiledExpr) → All (IsLaid default) l.all
    → All (MayApply default l.query) l.rows.items × StandFor default l.query (map (λ (f : FlatOverride). f.given) (take l.laid-index l.all)) (map given_of l.rows.items)
