-- What is said of the nodes of a tree.
use Rattle.std.specs.Prelude.{◌≡◌, ℕ, Bool, true, false, not, cond, List, [], ◌∷◌, ◌++◌, Option, Some, None, is_none}
use Rattle.std.specs.{Borrow.Bor, List.AllZip, List.list_all, List.list_any}
use Rattle.filterset_faults.specs.declared.span.SourceSpan.{SourceSpan}
use Rattle.filterset_graph.specs.declared.package.PackageMetadata.{PackageMetadata}
use Rattle.filterset_grammar.specs.Tree.{Tree}
use Rattle.filterset_language.specs.Views.{tree_of}
use Rattle.filterset_expression.specs.declared.expression.CompiledExpr.{CompiledExpr}
use Rattle.filterset_listing.specs.{Asking.Text, Columns.Fits, Groups.HangsOn, Nodes.tree_nodes}
use Rattle.filterset_listing.specs.NamedPackages.{NamesPackages}
use Rattle.filterset_listing.specs.SubjectValues.{Basis, HasColumn, may_be}
use Rattle.filterset_listing.specs.{Values.HasValue, declared.columns.Columns.Columns}
use Rattle.filterset_listing.specs.declared.explaining.{ExplainedNode.ExplainedNode, Explanation.Explanation}
use Rattle.filterset_listing.specs.declared.explaining.candidate.Candidate.{Candidate, TheVariants.Test}
use Rattle.filterset_listing.specs.declared.explaining.packages.NamedPackages.{NamedPackages}
use Rattle.filterset_listing.specs.declared.{groups.GroupOverride.GroupOverride, subjects.Subject.Subject}

-- the node with its depth, the value of its own tree, and the packages that it stands for
abbrev pub IsExplained : (Tree SourceSpan → Option Bool → Type 0) → List PackageMetadata → (ℕ × Tree SourceSpan) → ExplainedNode → Type 0
IsExplained Has packages node explained = (explained.depth ≡ node.0) × (tree_of explained.node.now ≡ node.1)
    × Has node.1 explained.value × NamesPackages packages node.1 explained.packages

-- the value of a node is unknown
abbrev pub has_unknown : List ExplainedNode → Bool
has_unknown nodes = list_any (λ n. is_none n.value) nodes

-- if a node of a test is unknown, this is the path of the override that it depends on, and else there is none
abbrev pub NamesOverride : Candidate → List GroupOverride → CompiledExpr → Bool → Option (Bor Text) → Type 0
NamesOverride (Test query) overrides default true (Some path) = HangsOn default overrides query path.now
NamesOverride (Test query) overrides default true None = ⊥
NamesOverride candidate overrides default has_unknown path = path ≡ None

-- each node of the tree is explained, and the override is named that unknown ones depend on
abbrev pub IsExplanation : Candidate → List GroupOverride → List PackageMetadata → CompiledExpr → Tree SourceSpan → Explanation → Type 0
IsExplanation candidate overrides packages default e explanation =
    AllZip (IsExplained (HasValue candidate overrides packages default) packages) (tree_nodes 0 e) explanation.nodes.items
    × NamesOverride candidate overrides default (has_unknown explanation.nodes.items) explanation.unknown_platform

-- ---- by columns

-- the value that all of these are; none if one is unknown, or if they differ
abbrev pub shared_value : List (Option Bool) → Option Bool
shared_value values = cond (list_all (λ v. not (may_be v false)) values) (Some true)
    (cond (list_all (λ v. not (may_be v true)) values) (Some false) None)

-- the tree has the value for all of the subjects
abbrev pub HasShared : Basis → List Subject → Tree SourceSpan → Option Bool → Type 0
HasShared basis subjects e value =
    (values : List (Option Bool)) × HasColumn basis subjects e values × (value ≡ shared_value values)

-- a node was added
abbrev pub AddsNode :
    ℕ → Tree SourceSpan → Option Bool → Option NamedPackages → List ExplainedNode → List ExplainedNode → Type 0
AddsNode depth e value packages before after = (added : ExplainedNode) × (after ≡ before ++ added ∷ [])
    × (added.depth ≡ depth) × (tree_of added.node.now ≡ e) × (added.value ≡ value) × (added.packages ≡ packages)

-- the nodes of the tree were added, with the values that they have for all of the subjects
abbrev pub ExplainsBy : Basis → List Subject → ℕ → Tree SourceSpan → List ExplainedNode → List ExplainedNode → Type 0
ExplainsBy basis subjects depth e before after = (added : List ExplainedNode) × (after ≡ before ++ added)
    × AllZip (IsExplained (HasShared basis subjects) basis.packages) (tree_nodes depth e) added

-- so they were, if these are the values
abbrev pub Explains : List PackageMetadata → ℕ → Tree SourceSpan → Columns → List ExplainedNode → List ExplainedNode → Type 0
Explains packages depth e columns before after = (default : CompiledExpr) (subjects : List Subject)
    → Fits (record { packages = packages; default = default }) subjects e columns
    → ExplainsBy (record { packages = packages; default = default }) subjects depth e before after
