-- What overrides answer about tests, kept as lists. Only contracts of private functions cite this.
use Rattle.std.specs.{Prelude.All, Prelude.Bool, Prelude.List, Prelude.Option, Prelude.map, List.AllZip}
use Rattle.filterset_graph.specs.declared.package.PackageMetadata.{PackageMetadata}
use Rattle.filterset_expression.specs.declared.expression.CompiledExpr.{CompiledExpr}
use Rattle.filterset_overrides.specs.Applying.{DoesApply, Test, Text}
use Rattle.filterset_overrides.specs.{Counting.PicksAll, Giving.Takes, declared.asked.AskedOverride.AskedOverride}
use Rattle.filterset_overrides.specs.declared.counting.applied.AppliedOverride.{AppliedOverride}

-- the answers are those of the override about the tests
abbrev pub IsApplied : List PackageMetadata → CompiledExpr → List Test → AppliedOverride → Type 0
IsApplied packages default tests applied =
    AllZip (λ test. DoesApply packages default test applied.asked) tests applied.answers.items
    × PicksAll packages default tests applied.asked applied.picks_all

abbrev pub AreApplied : List PackageMetadata → CompiledExpr → List Test → List AppliedOverride → Type 0
AreApplied packages default tests all = All (IsApplied packages default tests) all

abbrev pub overrides_of : List AppliedOverride → List AskedOverride
overrides_of all = map (λ a. a.asked) all

-- of each test whether one of the overrides takes the setting
abbrev pub AreTaken : List PackageMetadata → CompiledExpr → List Test → Text → List AskedOverride → List (Option Bool) → Type 0
AreTaken packages default tests key overrides taken = AllZip (λ test. Takes (DoesApply packages default test) key overrides) tests taken
