-- What C is answered.
use Rattle.std.specs.Prelude.{◌≡◌, ◌↔◌, ℕ, Bool, true, false, List, Option, None, Some, IsTrue}
use Rattle.filterset_expression.specs.{BinaryMeaning.IsDefiniteTree, FlatExpressions.IsFlatOfTree}
use Rattle.filterset_expression.specs.Meaning.{IsCompiled, Meaning}
use Rattle.filterset_expression.specs.declared.{expression.CompiledExpr.CompiledExpr, flat.FlatExpr.FlatExpr}
use Rattle.filterset_expression.specs.declared.query.{BinaryQuery.BinaryQuery, TestQuery.TestQuery}
use Rattle.filterset_faults.specs.declared.span.SourceSpan.{SourceSpan}
use Rattle.filterset_grammar.specs.{Printing.printed, Tree.Tree}
use Rattle.filterset_graph.specs.declared.package.PackageMetadata.{PackageMetadata}
use Rattle.filterset_language.specs.Views.{tree_of}
use Rattle.filterset_c.specs.Queries.{matches_named, IsAbout, IsAboutTest}
use Rattle.filterset_c.specs.declared.object.{BoundFilterset.BoundFilterset, Object.Object}
use Rattle.filterset_c.specs.declared.{object.Object.TheVariants.Filterset, queries.Binary.Binary, queries.Test.Test}

-- the numbers of answers
abbrev pub yes_or_no : Bool → ℕ
yes_or_no false = 0
yes_or_no true = 1

abbrev pub binary_number : Option Bool → ℕ
binary_number (Some answer) = yes_or_no answer
binary_number None = 2

-- the answer is whether the filterset matches the test, which is in the group that C names
abbrev pub IsTestAnswer : BoundFilterset → Binary → Test → Bool → Type 0
IsTestAnswer bound binary test answer = let e = tree_of bound.filterset.parsed in
    (packages : List PackageMetadata) → IsCompiled packages e bound.filterset.compiled
    → (query : TestQuery) × IsAboutTest binary test query
    × (IsTrue answer ↔ Meaning e packages query bound.default_filter (matches_named test.group.now))

-- the answer is what the filterset decides for the binary
abbrev pub IsBinaryAnswer : BoundFilterset → Binary → Option Bool → Type 0
IsBinaryAnswer bound binary answer = let e = tree_of bound.filterset.parsed in
    (packages : List PackageMetadata) → IsCompiled packages e bound.filterset.compiled
    → (query : BinaryQuery) × IsAbout binary query
    × ((b : Bool) → (answer ≡ Some b) ↔ IsDefiniteTree e packages query bound.default_filter b)

-- the numbers of such answers
abbrev pub IsTestNumber : BoundFilterset → Binary → Test → ℕ → Type 0
IsTestNumber bound binary test number =
    (answer : Bool) × (number ≡ yes_or_no answer) × IsTestAnswer bound binary test answer

abbrev pub IsBinaryNumber : BoundFilterset → Binary → ℕ → Type 0
IsBinaryNumber bound binary number =
    (answer : Option Bool) × (number ≡ binary_number answer) × IsBinaryAnswer bound binary answer

-- the handle holds a filterset, of which P holds
abbrev pub HoldsFilterset : (BoundFilterset → Type 0) → Option Object → Type 0
HoldsFilterset P (Some (Filterset bound)) = P bound
HoldsFilterset P held = ⊥

-- the handle is empty, or holds something else
abbrev pub IsNoFilterset : Option Object → Type 0
IsNoFilterset (Some (Filterset bound)) = ⊥
IsNoFilterset _ = Unit {0}

abbrev pub IsFilterset : Option Object → Type 0
IsFilterset held = HoldsFilterset (λ _. Unit {0}) held

-- the text is the filterset's print
abbrev pub IsPrint : List ℕ → BoundFilterset → Type 0
IsPrint text bound = text ≡ printed (tree_of bound.filterset.parsed)

-- the number of the answer that the steps give for a test of the binary
abbrev pub IsFlatNumber : FlatExpr → BinaryQuery → Test → ℕ → Type 0
IsFlatNumber flat binary_query test number =
    (answer : Bool) × (number ≡ yes_or_no answer)
    × ((packages : List PackageMetadata) (e : Tree SourceSpan) (default : CompiledExpr) → IsFlatOfTree flat packages e default
    → (query : TestQuery) × (query.binary_query ≡ binary_query) × (query.test_name.now ≡ test.name.now)
    × (IsTrue answer ↔ Meaning e packages query default (matches_named test.group.now)))
