use Rattle.std.proofs.Common.{◌≡◌, List, All, map, take}
use Rattle.filterset_graph.specs.declared.package.PackageMetadata.{PackageMetadata}
use Rattle.filterset_expression.specs.declared.expression.CompiledExpr.{CompiledExpr}
use Rattle.filterset_overrides.specs.Applying.{DoesApply, Test}
use Rattle.filterset_overrides.specs.Giving.{AreExplained, IsGiver, asked_of}
use Rattle.filterset_overrides.specs.declared.explaining.ExplainedSetting.{ExplainedSetting}
use Rattle.filterset_overrides.proofs.explaining.explain_settings.Given as goal

-- the keys so far have what gives them
abbrev pub invariant-loop-key : goal.invariant-loop-key
invariant-loop-key l = record {
  keys : map (λ (s : ExplainedSetting). s.key.now) l.settings.items ≡ map (λ k. k.now) (take l.key-index l.keys);
  givers : (packages : List PackageMetadata) (default : CompiledExpr) (test : Test) → AreExplained packages default test l.explained
      → All (λ (s : ExplainedSetting). IsGiver (DoesApply packages default test) s.key.now (asked_of l.explained) l.profiles s.giver) l.settings.items;
}
