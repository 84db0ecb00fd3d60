use Rattle.std.proofs.Common.{◌≡◌, List, take}
use Rattle.filterset_expression.specs.{FlatExpressions.IsFlat, declared.expression.CompiledExpr.CompiledExpr}
use Rattle.filterset_listing.specs.Comparing.{Divides, tests_in}
use Rattle.filterset_listing.specs.{Overrides.AreLaid, Pickers.expr_picker, declared.groups.GroupOverride.GroupOverride}
use Rattle.filterset_listing.proofs.comparing.difference_of.Given as goal

-- the answers are kept, and the tests so far are divided
abbrev pub invariant-loop-test : goal.invariant-loop-test
invariant-loop-test l =
    (l.difference.binary ≡ l.binary) × (l.difference.first_answer ≡ l.first_answer) × (l.difference.second_answer ≡ l.second_answer)
    × ((one other default : CompiledExpr) (given : List GroupOverride) → IsFlat l.first one default → IsFlat l.second other default → AreLaid default given l.overrides
    → Divides ((expr_picker default given one).Says l.binary.query) ((expr_picker default given other).Says l.binary.query) (take l.test-index l.binary.tests.now) (λ part. tests_in part l.difference))
