-- The value of a tree of a binary or of a test.
use Rattle.std.specs.Prelude.{◌≡◌, ◌↔◌, Bool, IsTrue, List, Option, Some, None}
use Rattle.filterset_faults.specs.declared.span.SourceSpan.{SourceSpan}
use Rattle.filterset_graph.specs.declared.package.PackageMetadata.{PackageMetadata}
use Rattle.filterset_grammar.specs.Tree.{Tree}
use Rattle.filterset_expression.specs.BinaryMeaning.{IsDefiniteTree, IsUndecidedTree}
use Rattle.filterset_expression.specs.declared.expression.CompiledExpr.{CompiledExpr}
use Rattle.filterset_listing.specs.{Asking.Text, Asking.TreePicks, Groups.IsAnswer, Groups.known_of}
use Rattle.filterset_listing.specs.Pickers.{Answers, tree_picker}
use Rattle.filterset_listing.specs.declared.explaining.candidate.Candidate.{Candidate}
use Rattle.filterset_listing.specs.declared.explaining.candidate.Candidate.TheVariants.{Binary, Test}
use Rattle.filterset_listing.specs.declared.groups.{GroupOverride.GroupOverride, TestAnswer.TestAnswer}

-- The tree has the value: of a binary the one that it takes whatever the answers to its `test` and `group` predicates
-- are, and none where it takes both; of a test the answer about it, and none where that is unknown.
abbrev pub HasValue : Candidate → List GroupOverride → List PackageMetadata → CompiledExpr → Tree SourceSpan → Option Bool → Type 0
HasValue (Binary query) overrides packages default e value = Answers (tree_picker packages default overrides e) query value
HasValue (Test query) overrides packages default e value = (answer : TestAnswer) × (known_of answer ≡ value)
    × IsAnswer default overrides query (TreePicks packages default e query) answer

-- the same of a test that is in this group, which is never unknown
abbrev pub HasValueIn : Text → Candidate → List PackageMetadata → CompiledExpr → Tree SourceSpan → Option Bool → Type 0
HasValueIn group (Binary query) packages default e (Some value) = IsDefiniteTree e packages query default value
HasValueIn group (Binary query) packages default e None = IsUndecidedTree e packages query default
HasValueIn group (Test query) packages default e (Some value) = IsTrue value ↔ TreePicks packages default e query group
HasValueIn group (Test query) packages default e None = ⊥
