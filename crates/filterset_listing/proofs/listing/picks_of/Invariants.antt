use Rattle.std.proofs.Common.{◌≡◌, List, take}
use Rattle.filterset_expression.specs.{FlatExpressions.IsFlat, declared.expression.CompiledExpr.CompiledExpr}
use Rattle.filterset_listing.specs.{Asking.ExprPicks, Groups.Says, Listing.Picked, Listing.tests_of, Listing.unknown_of}
use Rattle.filterset_listing.specs.{Overrides.AreLaid, declared.groups.GroupOverride.GroupOverride}
use Rattle.filterset_listing.proofs.listing.picks_of.Given as goal

-- those of the tests so far are picked
abbrev pub invariant-loop-test : goal.invariant-loop-test
invariant-loop-test l =
    (l.picks.binary ≡ l.binary) × (l.picks.is_left_out ≡ l.initial.picks.is_left_out)
    × ((expr default : CompiledExpr) (given : List GroupOverride) → IsFlat l.flat expr default → AreLaid default given l.overrides
    → Picked (Says default given (ExprPicks default expr) l.binary.query) (take l.test-index l.binary.tests.now) (tests_of l.picks) (unknown_of l.picks))
