use Rattle.std.proofs.Common.{List, take}
use Rattle.filterset_expression.specs.declared.expression.CompiledExpr.{CompiledExpr}
use Rattle.filterset_listing.specs.{Overrides.AreLaid, Subjects.AreSubjects}
use Rattle.filterset_listing.specs.declared.groups.GroupOverride.{GroupOverride}
use Rattle.filterset_listing.proofs.subjects.subjects_of.Given as goal

-- the binaries so far were added
abbrev pub invariant-loop-binary : goal.invariant-loop-binary
invariant-loop-binary l = (default : CompiledExpr) (overrides : List GroupOverride) → AreLaid default overrides l.laid.items
    → AreSubjects default overrides (take l.binary-index l.binaries) l.subjects.items
