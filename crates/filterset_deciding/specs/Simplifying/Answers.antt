-- Trees that say the same of every test and every binary, as far as anyone can answer.
use Rattle.std.specs.Prelude.{◌≡◌, ◌↔◌, Bool, List, Option, Some, IsTrue, MatchOption}
use Rattle.filterset_expression.specs.BinaryMeaning.{IsDefiniteTree, IsUndecidedTree}
use Rattle.filterset_expression.specs.{Meaning.Meaning, declared.expression.CompiledExpr.CompiledExpr}
use Rattle.filterset_expression.specs.declared.query.{BinaryQuery.BinaryQuery, TestQuery.TestQuery}
use Rattle.filterset_grammar.specs.Tree.{Tree}
use Rattle.filterset_graph.specs.declared.package.PackageMetadata.{PackageMetadata}
use Rattle.filterset_matchers.specs.Matcher.{Matcher}

-- For every workspace, test, default filter and lookup of groups: a right answer to whether the one tree picks the test
-- is a right answer for the other.
abbrev pub PickAlike : {S : Type 0} → Tree S → Tree S → Type 0
PickAlike e d =
    (packages : List PackageMetadata) (test : TestQuery) (default : CompiledExpr) (lookup : TestQuery → Matcher → Bool)
    (answer other : Bool)
    → (IsTrue answer ↔ Meaning e packages test default (λ t m. IsTrue (lookup t m)))
    → (IsTrue other ↔ Meaning d packages test default (λ t m. IsTrue (lookup t m)))
    → answer ≡ other

-- what `matches_binary` answers of a tree: the value that it takes for the binary, or nothing if it takes both
abbrev pub IsBinaryAnswer : {S : Type 0} → Tree S → List PackageMetadata → BinaryQuery → CompiledExpr → Option Bool → Type 0
IsBinaryAnswer e packages binary default answer =
    MatchOption answer (IsUndecidedTree e packages binary default) (λ value. IsDefiniteTree e packages binary default value)

-- For every workspace, binary and default filter: if the one tree decides the binary, the other decides it alike.
abbrev pub KeepsDecided : {S : Type 0} → Tree S → Tree S → Type 0
KeepsDecided e d =
    (packages : List PackageMetadata) (binary : BinaryQuery) (default : CompiledExpr) (value : Bool) (answer : Option Bool)
    → IsDefiniteTree e packages binary default value → IsBinaryAnswer d packages binary default answer
    → answer ≡ Some value
