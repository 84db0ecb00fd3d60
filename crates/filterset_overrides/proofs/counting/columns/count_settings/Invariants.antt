use Rattle.std.proofs.Common.{◌≡◌, List, [], All, length, map, take}
use Rattle.filterset_graph.specs.declared.package.PackageMetadata.{PackageMetadata}
use Rattle.filterset_expression.specs.declared.expression.CompiledExpr.{CompiledExpr}
use Rattle.filterset_overrides.specs.{Applied.AreApplied, Applied.overrides_of, Applying.Test}
use Rattle.filterset_overrides.specs.Counting.{EachAfter, IsGiven}
use Rattle.filterset_overrides.specs.declared.counting.SettingColumn.{SettingColumn}
use Rattle.filterset_overrides.proofs.counting.columns.count_settings.Given as goal

-- the keys so far have their columns
abbrev pub invariant-loop-key : goal.invariant-loop-key
invariant-loop-key l = record {
  keys : map (λ (c : SettingColumn). c.key.now) l.columns.items ≡ map (λ k. k.now) (take l.key-index l.keys);
  given : (packages : List PackageMetadata) (default : CompiledExpr) (tests : List Test) → length tests ≡ l.test_count → AreApplied packages default tests l.applied
      → All (λ (c : SettingColumn). EachAfter (IsGiven packages default tests c.key.now) [] (overrides_of l.applied) c.given.items) l.columns.items;
}
