-- The search: what it looks for, and its branches.
use Rattle.std.specs.Prelude.{◌≡◌, ◌↔◌, Bool, false, List, [], ◌∷◌, IsTrue, length}
use Rattle.std.specs.{Borrow.Bor, List.AllZip, List.count_by, List.flat_map, List.AllByRecursion}
use Rattle.std.specs.declared.{vec.Vec.Vec, alloc.Global.Global}
use Rattle.filterset_expression.specs.{Expression.CompiledLeaf, FlatSteps.Step, FlatSteps.Push, FlatSteps.postfix}
use Rattle.filterset_expression.specs.Formula.{Formula, TrueWhere}
use Rattle.filterset_expression.specs.declared.expression.CompiledExpr.{CompiledExpr}
use Rattle.filterset_deciding.specs.{AnyTest.AnyTest, AnyTest.AreAnswers, AnyTest.Says, Deciding.IsOf, Judging.met}
use Rattle.filterset_deciding.specs.{Known.Agrees, Known.steps_in, Question.is_met, declared.question.Question.Question}
use Rattle.filterset_deciding.specs.declared.{running.ValuedStep.ValuedStep, witness.PossibleTest.PossibleTest}

-- the steps of formulas, one after the other
abbrev pub all_steps : List (Formula CompiledLeaf) → List (Step CompiledLeaf)
all_steps formulas = flat_map postfix formulas

-- The steps are those of formulas, the first is that of the given filterset and true of the test, and for the test the
-- answer is no.
pub record IsMissed (question : Question) (steps : List (Step CompiledLeaf)) (test : AnyTest) : Type 0 where
  pub formulas : List (Formula CompiledLeaf)
  pub made : steps ≡ all_steps formulas
  pub answers : List Bool
  pub are : AllZip (λ answer formula. IsTrue answer ↔ TrueWhere (Says test) formula) answers formulas
  pub unmet : met question answers ≡ false

-- the branch has these steps, and its values are what the leaves say of the test
abbrev pub AgreesWith : AnyTest → List (Step CompiledLeaf) → List ValuedStep → Type 0
AgreesWith test steps branch = (steps_in branch ≡ steps) × Agrees test branch

-- each branch has these steps
abbrev pub HaveSteps : List (Step CompiledLeaf) → List (Vec ValuedStep Global) → Type 0
HaveSteps steps branches = AllByRecursion (λ b. steps_in b.items ≡ steps) branches

-- no branch agrees with the test
abbrev pub NoneAgrees : AnyTest → List (Step CompiledLeaf) → List (Vec ValuedStep Global) → Type 0
NoneAgrees test steps branches = AllByRecursion (λ b. ¬ AgreesWith test steps b.items) branches

-- no test for which the answer is no agrees with the branch
abbrev pub Rejects : Question → List ValuedStep → Type 0
Rejects question branch =
    (test : AnyTest) (steps : List (Step CompiledLeaf)) → IsMissed question steps test → ¬ AgreesWith test steps branch

-- the leaves that steps push
abbrev pub pushed : List (Step CompiledLeaf) → List CompiledLeaf
pushed [] = []
pushed (Push leaf ∷ steps) = leaf ∷ pushed steps
pushed (_ ∷ steps) = pushed steps

-- the first formula is true of the test, and for right answers of the others the answer is no
abbrev pub IsUnmetBy : Question → AnyTest → List (Formula CompiledLeaf) → Type 0
IsUnmetBy question test [] = ⊥
IsUnmetBy question test (given ∷ formulas) = TrueWhere (Says test) given
    × ((answers : List Bool) → AllZip (λ answer formula. IsTrue answer ↔ TrueWhere (Says test) formula) answers formulas
    → is_met question (count_by (λ x. x) answers) (length answers) ≡ false)

-- for each test that agrees with the branch the answer is no, if its steps are those of formulas
abbrev pub Refuses : Question → List ValuedStep → Type 0
Refuses question branch = (formulas : List (Formula CompiledLeaf)) → steps_in branch ≡ all_steps formulas
    → (test : AnyTest) → Agrees test branch → IsUnmetBy question test formulas

-- these are the answers of the filtersets about the possible test
pub record AreAnswersAt (default : CompiledExpr) (exprs : List (Bor CompiledExpr)) (possible : PossibleTest)
    (answers : List Bool) : Type 0 where
  pub test : AnyTest
  pub is_of : IsOf test possible
  pub are : AreAnswers default test exprs answers
