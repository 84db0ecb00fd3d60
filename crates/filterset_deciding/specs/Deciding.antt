-- What is decided about filtersets.
use Rattle.std.specs.Prelude.{◌≡◌, ◌∷◌, Bool, true, false, List, length, map, string_bytes}
use Rattle.std.specs.{List.count_by, List.flat_map, Borrow.Bor}
use Rattle.filterset_expression.specs.Expression.{CompiledLeaf, with_default}
use Rattle.filterset_expression.specs.{FlatSteps.Step, FlatSteps.postfix, Formula.Formula, Formula.leaves}
use Rattle.filterset_expression.specs.declared.{expression.CompiledExpr.CompiledExpr, query.TestQuery.TestQuery}
use Rattle.filterset_deciding.specs.{AnyTest.AnyTest, AnyTest.Picks, AnyTest.AreAnswers, Question.is_met}
use Rattle.filterset_deciding.specs.declared.{question.Question.Question, witness.PossibleTest.PossibleTest}

-- the answer to the question, by which filtersets pick the test
abbrev pub answer_of : Question → List Bool → Bool
answer_of question answers = is_met question (count_by (λ x. x) answers) (length answers)

-- the answer is yes for every test that the given filterset picks, whatever its group is
abbrev pub IsAlwaysMet : Question → CompiledExpr → CompiledExpr → List (Bor CompiledExpr) → Type 0
IsAlwaysMet question given default exprs =
    (test : AnyTest) → Picks default test given
    → (answers : List Bool) → AreAnswers default test exprs answers → answer_of question answers ≡ true

-- the query is about the possible test
pub record IsAbout (query : TestQuery) (possible : PossibleTest) : Type 0 where
  pub package_id : query.binary_query.package_id.now ≡ possible.package_id
  pub binary_id : query.binary_query.binary_id.now ≡ possible.binary_id
  pub binary_name : query.binary_query.binary_name.now ≡ string_bytes possible.binary_name
  pub kind : query.binary_query.kind.now ≡ possible.kind
  pub platform : query.binary_query.platform ≡ possible.platform
  pub test_name : query.test_name.now ≡ possible.test_name

-- the test is the possible test, in its group
pub record IsOf (test : AnyTest) (possible : PossibleTest) : Type 0 where
  pub query : IsAbout test.query possible
  pub group : test.group ≡ string_bytes possible.group

-- the given filterset picks the possible test, these are the answers of the others, and the answer to the question is no
pub record IsUnmetAt (question : Question) (given default : CompiledExpr) (exprs : List (Bor CompiledExpr))
    (possible : PossibleTest) (answers : List Bool) : Type 0 where
  pub test : AnyTest
  pub is_of : IsOf test possible
  pub is_given : Picks default test given
  pub are : AreAnswers default test exprs answers
  pub unmet : answer_of question answers ≡ false

-- the filtersets as formulas, first the given one, with the default filter in the place of each `default` leaf
abbrev pub formulas_asked : CompiledExpr → CompiledExpr → List (Bor CompiledExpr) → List (Formula CompiledLeaf)
formulas_asked given default exprs = with_default default given ∷ map (λ e. with_default default e.now) exprs

-- their leaves
abbrev pub leaves_asked : CompiledExpr → CompiledExpr → List (Bor CompiledExpr) → List CompiledLeaf
leaves_asked given default exprs = flat_map leaves (formulas_asked given default exprs)

-- their steps, the leaves and the operators
abbrev pub steps_asked : CompiledExpr → CompiledExpr → List (Bor CompiledExpr) → List (Step CompiledLeaf)
steps_asked given default exprs = flat_map postfix (formulas_asked given default exprs)
