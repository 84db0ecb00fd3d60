-- Filtersets as they are compared: what they answer about tests, and what they can be of a binary.
use Rattle.std.specs.Prelude.{◌≡◌, ◌↔◌, Bool, true, false, List, Option, Some, None}
use Rattle.filterset_faults.specs.declared.span.SourceSpan.{SourceSpan}
use Rattle.filterset_graph.specs.declared.package.PackageMetadata.{PackageMetadata}
use Rattle.filterset_grammar.specs.Tree.{Tree}
use Rattle.filterset_expression.specs.{BinaryMeaning.PossibleOfTree, Expression.Possible}
use Rattle.filterset_expression.specs.declared.{expression.CompiledExpr.CompiledExpr, query.BinaryQuery.BinaryQuery}
use Rattle.filterset_listing.specs.Asking.{ExprPicks, Text, TreePicks}
use Rattle.filterset_listing.specs.declared.groups.{GroupOverride.GroupOverride, TestAnswer.TestAnswer}
use Rattle.filterset_listing.specs.Groups as groups

-- a filterset: its answer about a test of a binary, and which values it can have for a binary, whatever tests that has
pub record Picker : Type 1 where
  pub Says : BinaryQuery → Text → TestAnswer → Type 0
  pub CanBe : BinaryQuery → Bool → Type 0

-- the compiled expression, where these are the default filter and the overrides
abbrev pub expr_picker : CompiledExpr → List GroupOverride → CompiledExpr → Picker
expr_picker default overrides expr =
    record { Says = groups.Says default overrides (ExprPicks default expr); CanBe = λ binary. Possible expr binary default }

-- the tree, for these packages
abbrev pub tree_picker : List PackageMetadata → CompiledExpr → List GroupOverride → Tree SourceSpan → Picker
tree_picker packages default overrides tree = record {
  Says = groups.Says default overrides (TreePicks packages default tree);
  CanBe = λ binary. PossibleOfTree tree packages binary default;
}

-- the answer about the binary: the value that the filterset has, or none if it can have both
abbrev pub Answers : Picker → BinaryQuery → Option Bool → Type 0
Answers picker binary (Some value) = (other : Bool) → picker.CanBe binary other ↔ (other ≡ value)
Answers picker binary None = picker.CanBe binary true × picker.CanBe binary false
