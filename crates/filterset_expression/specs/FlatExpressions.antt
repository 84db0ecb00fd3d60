-- The expression that a flat expression evaluates.
use Rattle.std.specs.Prelude.{◌≡◌, Bool, false, true, List, Option, Some}
use Rattle.std.specs.List.{list_any}
use Rattle.filterset_faults.specs.declared.span.SourceSpan.{SourceSpan}
use Rattle.filterset_graph.specs.declared.package.PackageMetadata.{PackageMetadata}
use Rattle.filterset_grammar.specs.Tree.{Tree}
use Rattle.filterset_expression.specs.Connectives.{Decides, kleene, kleene_not}
use Rattle.filterset_expression.specs.Expression.{CompiledLeaf, is_of_test, with_default, HoldsOfBinary}
use Rattle.filterset_expression.specs.{Folds.Folds, Folds.Settles, Meaning.IsCompiled}
use Rattle.filterset_expression.specs.FlatSteps.{Step, Push, step_of, steps_of, postfix}
use Rattle.filterset_expression.specs.declared.{expression.CompiledExpr.CompiledExpr, flat.FlatExpr.FlatExpr}
use Rattle.filterset_expression.specs.declared.query.BinaryQuery.{BinaryQuery}

abbrev pub flat_steps : FlatExpr → List (Step CompiledLeaf)
flat_steps flat = steps_of flat.steps.items

-- the steps are those of the expression, with those of the default filter in the place of each `default` leaf
abbrev pub IsFlat : FlatExpr → CompiledExpr → CompiledExpr → Type 0
IsFlat flat expr default = flat_steps flat ≡ postfix (with_default default expr)

-- the steps are those of what the tree is compiled to, with those of the default filter in the place of each `default`
abbrev pub IsFlatOfTree : FlatExpr → List PackageMetadata → Tree SourceSpan → CompiledExpr → Type 0
IsFlatOfTree flat packages e default =
    (compiled : CompiledExpr) × IsCompiled packages e compiled × IsFlat flat compiled default

-- whether the step is a leaf that passes the test
abbrev pub leaf_passes : (CompiledLeaf → Bool) → Step CompiledLeaf → Bool
leaf_passes test (Push leaf) = test leaf
leaf_passes test _ = false

-- whether a leaf among the steps passes the test
abbrev pub has_step : (CompiledLeaf → Bool) → FlatExpr → Bool
has_step test flat = list_any (λ s. leaf_passes test (step_of s)) flat.steps.items

-- The answer for a binary: the value of the expression by Kleene's connectives, where leaves that depend on the test are
-- unknown. A known value is the value for each test of the binary, whatever a lookup would answer.
abbrev pub IsTold : FlatExpr → BinaryQuery → Option Bool → Type 0
IsTold flat binary told = (expr default : CompiledExpr) → IsFlat flat expr default
    → Folds kleene_not kleene (Decides (Some true) (Some false)) (Settles is_of_test (HoldsOfBinary binary))
    (with_default default expr) told
