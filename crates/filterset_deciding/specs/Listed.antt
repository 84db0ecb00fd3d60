-- Tests of a list, each in each of several groups, and what is decided about them.
use Rattle.std.specs.Prelude.{◌≡◌, ◌++◌, ◌∷◌, ◌||◌, ℕ, Bool, true, false, List, Contains, map}
use Rattle.std.specs.{Borrow.Bor, List.list_any}
use Rattle.filterset_expression.specs.{Expression.is_group, FlatExpressions.IsFlat, FlatExpressions.has_step}
use Rattle.filterset_expression.specs.declared.{expression.CompiledExpr.CompiledExpr, query.TestQuery.TestQuery}
use Rattle.filterset_deciding.specs.AnyTest.{AnyTest, AreAnswers, AreAnswersAsked, AreLaid, Picks, PicksAsked}
use Rattle.filterset_deciding.specs.{Deciding.IsUnmetAt, Deciding.answer_of, declared.listed.LaidQuestion.LaidQuestion}
use Rattle.filterset_deciding.specs.declared.{question.Question.Question, witness.PossibleTest.PossibleTest}

-- the answer is yes for each of these tests in each of these groups, if the given filterset picks it
abbrev pub IsMetByAll : Question → CompiledExpr → CompiledExpr → List (Bor CompiledExpr) → List TestQuery → List (Bor (List ℕ))
    → Type 0
IsMetByAll question given default exprs tests groups =
    (test : AnyTest) → Contains tests test.query → Contains (map (λ g. g.now) groups) test.group → Picks default test given
    → (answers : List Bool) → AreAnswers default test exprs answers → answer_of question answers ≡ true

-- The answer is no for one of these tests in one of these groups, which is the possible test, and these are the answers.
-- It is yes for the tests before it.
pub record IsFirstUnmet (question : Question) (given default : CompiledExpr) (exprs : List (Bor CompiledExpr))
    (tests : List TestQuery) (groups : List (Bor (List ℕ))) (possible : PossibleTest) (answers : List Bool) : Type 0 where
  pub at : IsUnmetAt question given default exprs possible answers
  pub before : List TestQuery
  pub after : List TestQuery
  pub is_listed : tests ≡ before ++ at.test.query ∷ after
  pub is_grouped : Contains (map (λ g. g.now) groups) at.test.group
  pub is_first : IsMetByAll question given default exprs before groups

-- ---- what only contracts of private functions cite

-- the filtersets of the question are laid out as steps
pub record AreOfQuestion (given default : CompiledExpr) (exprs : List (Bor CompiledExpr)) (laid : LaidQuestion) : Type 0 where
  pub given_laid : IsFlat laid.given given default
  pub exprs_laid : AreLaid default exprs laid.exprs.items

-- the answer is yes for the test of the query in this group, if the given filterset picks it
abbrev pub IsMetAsked : LaidQuestion → TestQuery → List ℕ → Type 0
IsMetAsked laid query group =
    (given default : CompiledExpr) (exprs : List (Bor CompiledExpr)) → AreOfQuestion given default exprs laid
    → PicksAsked default query group given → (answers : List Bool) → AreAnswersAsked default query group exprs answers
    → answer_of laid.question answers ≡ true

-- the given filterset picks the test of the query in this group, these are the answers, and the answer is no
pub record IsUnmetAsked (given default : CompiledExpr) (exprs : List (Bor CompiledExpr)) (question : Question) (query : TestQuery)
    (group : List ℕ) (answers : List Bool) : Type 0 where
  pub is_given : PicksAsked default query group given
  pub are : AreAnswersAsked default query group exprs answers
  pub unmet : answer_of question answers ≡ false

-- the answer is no for the test of the query in one of the groups, which is the possible test
pub record IsUnmetIn (given default : CompiledExpr) (exprs : List (Bor CompiledExpr)) (question : Question) (query : TestQuery)
    (groups : List (Bor (List ℕ))) (possible : PossibleTest) (answers : List Bool) : Type 0 where
  pub at : IsUnmetAt question given default exprs possible answers
  pub is_asked : at.test.query ≡ query
  pub is_grouped : Contains (map (λ g. g.now) groups) at.test.group

-- whether a filterset asks for the group of a test
abbrev pub asks_group : LaidQuestion → Bool
asks_group laid = has_step is_group laid.given || list_any (has_step is_group) laid.exprs.items
