use Rattle.std.proofs.Common.{◌≡◌, []}
use Rattle.std.specs.Prelude.{MatchOption}
use Rattle.filterset_listing.proofs.UnionLemmas.{IsUnionOf}
use Rattle.filterset_listing.proofs.selection.union_of.Given as goal

-- the union of the sets so far, if there are any
abbrev pub invariant-loop-expr : goal.invariant-loop-expr
invariant-loop-expr l = MatchOption l.union (l.yielded ≡ []) (λ union. IsUnionOf l.yielded union.value)
