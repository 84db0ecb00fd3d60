-- Which tests a filterset picks: by its compiled expression, and by its tree.
use Rattle.std.specs.Prelude.{ℕ, List, Bool, true, false, Option, Some, None, codes}
use Rattle.filterset_faults.specs.declared.span.SourceSpan.{SourceSpan}
use Rattle.filterset_graph.specs.declared.package.PackageMetadata.{PackageMetadata}
use Rattle.filterset_grammar.specs.Tree.{Tree}
use Rattle.filterset_expression.specs.BinaryMeaning.{PossibleOfTree}
use Rattle.filterset_expression.specs.Expression.{Holds, Lookup, Possible}
use Rattle.filterset_expression.specs.{Meaning.Meaning, declared.expression.CompiledExpr.CompiledExpr}
use Rattle.filterset_expression.specs.declared.query.{BinaryQuery.BinaryQuery, TestQuery.TestQuery}
use Rattle.filterset_matchers.specs.Matcher.{MatchesName}

-- a text, by its bytes
abbrev pub Text : Type 0
Text = List ℕ

-- every test is in this group
abbrev pub in_group : Text → Lookup
in_group group test matcher = MatchesName matcher group

-- every test is in the group `@global`
abbrev pub in_global : Lookup
in_global = in_group (codes "@global")

-- whether the answer is no
abbrev pub is_no : Option Bool → Bool
is_no (Some true) = false
is_no (Some false) = true
is_no None = false

-- the compiled expression picks the test in this group, where this is the default filter
abbrev pub ExprPicks : CompiledExpr → CompiledExpr → TestQuery → Text → Type 0
ExprPicks default expr test group = Holds expr test default (in_group group)

-- it can pick a test of the binary: it is true under some answers to its `test` and `group` leaves
abbrev pub ExprCanPick : CompiledExpr → CompiledExpr → BinaryQuery → Type 0
ExprCanPick default expr binary = Possible expr binary default true

-- the tree picks the test in this group, for these packages and this default filter
abbrev pub TreePicks : List PackageMetadata → CompiledExpr → Tree SourceSpan → TestQuery → Text → Type 0
TreePicks packages default tree test group = Meaning tree packages test default (in_group group)

-- it can pick a test of the binary: it is true under some answers to its `test` and `group` predicates
abbrev pub TreeCanPick : List PackageMetadata → CompiledExpr → Tree SourceSpan → BinaryQuery → Type 0
TreeCanPick packages default tree binary = PossibleOfTree tree packages binary default true
