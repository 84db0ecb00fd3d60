use Rattle.std.proofs.Common.{◌≡◌, ◌++◌, List, drop, map}
use Rattle.filterset_expression.specs.declared.expression.CompiledExpr.{CompiledExpr}
use Rattle.filterset_listing.specs.Overrides.{AreTold, given_of}
use Rattle.filterset_listing.specs.declared.{groups.GroupOverride.GroupOverride, subjects.Subject.Subject}
use Rattle.filterset_listing.proofs.SubjectLemmas.{Walked}
use Rattle.filterset_listing.proofs.subjects.push_test.Given as goal

-- the test was added in the groups of the overrides so far
abbrev pub invariant-loop-row : goal.invariant-loop-row
invariant-loop-row l = (default : CompiledExpr) (overrides : List GroupOverride) → AreTold default overrides l.test.binary_query l.rows
    → (added : List Subject) × (l.subjects.items ≡ l.initial.subjects.items ++ added)
    × Walked default overrides l.test added l.path (map given_of (drop l.row-index l.rows))
