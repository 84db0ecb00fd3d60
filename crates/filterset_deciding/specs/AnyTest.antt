-- Possible tests, and what filtersets say of them.
use Rattle.std.specs.Prelude.{ℕ, ◌↔◌, Bool, List, IsTrue, IsUtf8}
use Rattle.std.specs.{List.AllZip, Borrow.Bor}
use Rattle.filterset_expression.specs.Expression.{CompiledLeaf, Lookup, Holds, HoldsOfTest}
use Rattle.filterset_expression.specs.{FlatExpressions.IsFlat, declared.expression.CompiledExpr.CompiledExpr}
use Rattle.filterset_expression.specs.declared.{flat.FlatExpr.FlatExpr, query.TestQuery.TestQuery}
use Rattle.filterset_matchers.specs.Matcher.{MatchesName}

-- a possible test, and the name of its group; its texts are UTF-8, as each text of a program is
pub record AnyTest : Type 0 where
  pub query : TestQuery
  pub group : List ℕ
  pub kind_is_text : IsUtf8 query.binary_query.kind.now
  pub binary_name_is_text : IsUtf8 query.binary_query.binary_name.now
  pub binary_id_is_text : IsUtf8 query.binary_query.binary_id.now
  pub test_name_is_text : IsUtf8 query.test_name.now
  pub group_is_text : IsUtf8 group

-- each test is in this group
abbrev pub in_group : List ℕ → Lookup
in_group group test matcher = MatchesName matcher group

-- what a leaf says of the test
abbrev pub Says : AnyTest → CompiledLeaf → Type 0
Says test leaf = HoldsOfTest test.query (in_group test.group) leaf

-- the filterset picks the test
abbrev pub Picks : CompiledExpr → AnyTest → CompiledExpr → Type 0
Picks default test expr = Holds expr test.query default (in_group test.group)

-- each answer is whether the filterset at its position picks the test
abbrev pub AreAnswers : CompiledExpr → AnyTest → List (Bor CompiledExpr) → List Bool → Type 0
AreAnswers default test exprs answers = AllZip (λ expr answer. IsTrue answer ↔ Picks default test expr.now) exprs answers

-- ---- what only contracts of private functions cite

-- the texts of the query are UTF-8
pub record HasTexts (query : TestQuery) : Type 0 where
  pub kind : IsUtf8 query.binary_query.kind.now
  pub binary_name : IsUtf8 query.binary_query.binary_name.now
  pub binary_id : IsUtf8 query.binary_query.binary_id.now
  pub test_name : IsUtf8 query.test_name.now

-- the filterset picks the test of the query, if that is in this group
abbrev pub PicksAsked : CompiledExpr → TestQuery → List ℕ → CompiledExpr → Type 0
PicksAsked default query group expr = Holds expr query default (in_group group)

-- each answer is whether the filterset at its position picks the test of the query
abbrev pub AreAnswersAsked : CompiledExpr → TestQuery → List ℕ → List (Bor CompiledExpr) → List Bool → Type 0
AreAnswersAsked default query group exprs answers = AllZip (λ expr answer. IsTrue answer ↔ PicksAsked default query group expr.now) exprs answers

-- the filtersets are laid out as steps
abbrev pub AreLaid : CompiledExpr → List (Bor CompiledExpr) → List FlatExpr → Type 0
AreLaid default exprs flats = AllZip (λ expr flat. IsFlat flat expr.now default) exprs flats

-- the answer is whether the filterset with these steps picks the test of the query, if that is in this group
abbrev pub IsPickOf : TestQuery → List ℕ → FlatExpr → Bool → Type 0
IsPickOf query group flat answer =
    (expr default : CompiledExpr) → IsFlat flat expr default → IsTrue answer ↔ PicksAsked default query group expr
