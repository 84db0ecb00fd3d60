-- Branches by whose values the answer is no.
use Rattle.std.proofs.Common.{◌≡◌, Bool, true, Option, Some, refl, subst, List, [], ◌∷◌, map}
use Rattle.std.specs.{Prelude.Result, Prelude.Ok, Prelude.Err, Prelude.OnOk, Borrow.Bor}
use Rattle.filterset_expression.specs.{Expression.CompiledLeaf, Formula.Formula, Formula.TrueWhere}
use Rattle.filterset_expression.specs.declared.expression.CompiledExpr.{CompiledExpr}
use Rattle.filterset_deciding.specs.AnyTest.{AnyTest, Says}
use Rattle.filterset_deciding.specs.{Deciding.IsOf, Deciding.IsUnmetAt, Deciding.formulas_asked, Judging.IsUnmetFor}
use Rattle.filterset_deciding.specs.{Known.Agrees, Known.IsKnown, Known.steps_in, Running.kleene_run, Running.tops}
use Rattle.filterset_deciding.specs.Searching.{AreAnswersAt, IsUnmetBy, Refuses, all_steps}
use Rattle.filterset_deciding.specs.declared.{question.Question.Question, running.StackValue.StackValue}
use Rattle.filterset_deciding.specs.declared.{running.ValuedStep.ValuedStep, witness.PossibleTest.PossibleTest}
use Rattle.filterset_deciding.proofs.{Branches.are_of_formulas, Counting.fits, Kleene.AreKnown, Kleene.values_known}

unmet_by : (question : Question) (test : AnyTest) (formulas : List (Formula CompiledLeaf)) (values : List (Option Bool)) → AreKnown test formulas values
    → IsUnmetFor question values → IsUnmetBy question test formulas
unmet_by question test [] [] known unmet = absurd unmet
unmet_by question test [] (v ∷ values) known unmet = absurd known
unmet_by question test (f ∷ formulas) [] known unmet = absurd known
unmet_by question test (f ∷ formulas) (v ∷ values) known unmet =
    let own : IsKnown (Some true) (TrueWhere (Says test) f) = subst (λ o. IsKnown o (TrueWhere (Says test) f)) unmet.0 known.0 in
    (own.0 refl, λ answers are. unmet.1 answers (fits test formulas values answers known.1 are))

-- where the values of a branch tell that the answer is no, it is no for each test that agrees with it
pub unmet_refuses : (question : Question) (branch : List ValuedStep) (seen : List StackValue) → kleene_run branch [] ≡ Some (tops seen)
    → IsUnmetFor question (map (λ s. s.value) seen) → Refuses question branch
unmet_refuses question branch seen ran unmet formulas made test agrees =
    unmet_by question test formulas (map (λ s. s.value) seen) (values_known test branch formulas seen agrees made ran) unmet

-- a test that agrees with such a branch shows that the answer is no
pub refused_at : (question : Question) (given default : CompiledExpr) (exprs : List (Bor CompiledExpr)) (branch : List ValuedStep) (possible : PossibleTest) (answers : List Bool)
    → Refuses question branch → steps_in branch ≡ all_steps (formulas_asked given default exprs) → ((test : AnyTest) → IsOf test possible → Agrees test branch)
    → AreAnswersAt default exprs possible answers → IsUnmetAt question given default exprs possible answers
refused_at question given default exprs branch possible answers refuses made agrees are =
    let unmet = refuses (formulas_asked given default exprs) made are.test (agrees are.test are.is_of) in
    record {
      test = are.test;
      is_of = are.is_of;
      is_given = unmet.0;
      are = are.are;
      unmet = unmet.1 answers (are_of_formulas default are.test exprs answers are.are);
    }

pub any_ok : {T E P : Type 0} (r : Result T E) → P → OnOk r P
any_ok (Ok x) p = p
any_ok (Err e) p = tt
