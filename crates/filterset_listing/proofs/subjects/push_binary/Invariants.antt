use Rattle.std.proofs.Common.{◌≡◌, ◌++◌, List, take}
use Rattle.filterset_expression.specs.declared.expression.CompiledExpr.{CompiledExpr}
use Rattle.filterset_listing.specs.{Overrides.AreLaid, declared.groups.GroupOverride.GroupOverride}
use Rattle.filterset_listing.specs.{Subjects.AreOfName, Subjects.Parts, declared.subjects.Subject.Subject}
use Rattle.filterset_listing.proofs.subjects.push_binary.Given as goal

-- the tests so far were added
abbrev pub invariant-loop-name : goal.invariant-loop-name
invariant-loop-name l = (default : CompiledExpr) (overrides : List GroupOverride) → AreLaid default overrides l.laid
    → (added : List Subject) × (l.subjects.items ≡ l.initial.subjects.items ++ added)
    × Parts (AreOfName default overrides l.binary.query) (take l.name-index l.binary.tests.now) added
