-- Branches of the search, and which tests agree with them.
use Rattle.std.proofs.Common.{◌≡◌, ◌↔◌, ◌<◌, ◌+◌, ℕ, Bool, true, false, refl, sym, ◌∙◌, ap, subst, List, [], ◌∷◌, ◌++◌, map, take, length, get_or, IsTrue, Some}
use Rattle.std.specs.{Borrow.Bor, List.AllByRecursion, List.AllZip, declared.vec.Vec.Vec, declared.alloc.Global.Global}
use Rattle.std.proofs.lemmas.Bool.{true_from_ne_false as true_unless_false, false≢true}
use Rattle.std.proofs.lemmas.List.{map-append, take_more, Elements.All-from_recursion, Elements.All-get_or}
use Rattle.filterset_expression.specs.{Expression.CompiledLeaf, Expression.with_default, Formula.TrueWhere}
use Rattle.filterset_expression.specs.{declared.expression.CompiledExpr.CompiledExpr, FlatSteps.Step, FlatSteps.step_of}
use Rattle.filterset_deciding.specs.AnyTest.{AnyTest, Says, AreAnswers}
use Rattle.filterset_deciding.specs.Deciding.{IsAlwaysMet, answer_of}
use Rattle.filterset_deciding.specs.{Known.IsKnownStep, Known.Agrees, Known.steps_in, Judging.met, Judging.Fits}
use Rattle.filterset_deciding.specs.Searching.{AgreesWith, HaveSteps, NoneAgrees, IsMissed, Rejects, all_steps}
use Rattle.filterset_deciding.specs.declared.{question.Question.Question, running.ValuedStep.ValuedStep}
use Rattle.filterset_deciding.specs.{declared.running.StackValue.StackValue, Running.kleene_run, Running.tops}
use Rattle.filterset_deciding.proofs.{Kleene.values_known, Counting.fits}

-- one more that is so
pub each_pushed : {A : Type 0} (P : A → Type 0) (xs : List A) (x : A) → AllByRecursion P xs → P x → AllByRecursion P (xs ++ x ∷ [])
each_pushed P [] x all one = (one, tt)
each_pushed P (y ∷ xs) x all one = (all.0, each_pushed P xs x all.1 one)

pub each_before : {A : Type 0} (P : A → Type 0) (xs : List A) (x : A) → AllByRecursion P (xs ++ x ∷ []) → AllByRecursion P xs × P x
each_before P [] x all = (tt, all.0)
each_before P (y ∷ xs) x all = let others = each_before P xs x all.1 in ((all.0, others.0), others.1)

-- what agrees is known at each position
pub agrees_at : (test : AnyTest) (placed : List ValuedStep) (i : ℕ) (p : ValuedStep) → i < length placed → get_or placed i p ≡ p
    → Agrees test placed → IsKnownStep test (step_of p.step) p.value
agrees_at test placed i p lt at agrees =
    let P : ValuedStep → Type 0 = λ q. IsKnownStep test (step_of q.step) q.value in
    subst P at (All-get_or P placed i p lt (All-from_recursion P placed agrees))

-- one more of two lists that are made alike
pub mapped_more : {A B C : Type 0} (f : A → C) (g : B → C) (made : List A) (y : A) (xs : List B) (i : ℕ) (x : B) → i < length xs → get_or xs i x ≡ x → f y ≡ g x
    → map f made ≡ map g (take i xs) → map f (made ++ y ∷ []) ≡ map g (take (i + 1) xs)
mapped_more f g made y xs i x lt at e so_far =
    let more : take (i + 1) xs ≡ take i xs ++ x ∷ [] = take_more xs i x lt ∙ ap (λ z. take i xs ++ z ∷ []) at in
    rw (more, map-append g (take i xs) (x ∷ []), map-append f made (y ∷ []), so_far, e) refl

-- a branch that is divide agrees with no test that agrees with none of its parts
pub divided_rejects : (test : AnyTest) (steps : List (Step CompiledLeaf)) (branch without within : List ValuedStep) (leaf : CompiledLeaf)
    → steps_in without ≡ steps_in branch → steps_in within ≡ steps_in branch
    → ((IsTrue false ↔ Says test leaf) → Agrees test branch → Agrees test without)
    → ((IsTrue true ↔ Says test leaf) → Agrees test branch → Agrees test within)
    → ¬ AgreesWith test steps without → ¬ AgreesWith test steps within → ¬ AgreesWith test steps branch
divided_rejects test steps branch without within leaf s t by_no by_yes not_without not_within agrees =
    let refuted : ¬ Says test leaf = λ says. not_within (t ∙ agrees.0, by_yes (λ e. says, λ h. refl) agrees.1) in
    not_without (s ∙ agrees.0, by_no (λ e. absurd (false≢true e), λ says. absurd (refuted says)) agrees.1)

-- the same of the whole list of branches that are pending
pub divided_pending : (test : AnyTest) (steps : List (Step CompiledLeaf)) (branch : List ValuedStep) (without within : Vec ValuedStep Global) (leaf : CompiledLeaf) (old mid new : List (Vec ValuedStep Global))
    → mid ≡ old ++ without ∷ [] → new ≡ mid ++ within ∷ []
    → steps_in without.items ≡ steps_in branch → steps_in within.items ≡ steps_in branch
    → ((IsTrue false ↔ Says test leaf) → Agrees test branch → Agrees test without.items)
    → ((IsTrue true ↔ Says test leaf) → Agrees test branch → Agrees test within.items)
    → NoneAgrees test steps new → NoneAgrees test steps old × (¬ AgreesWith test steps branch)
divided_pending test steps branch without within leaf old mid new m n s t by_no by_yes none =
    let P : Vec ValuedStep Global → Type 0 = λ b. ¬ AgreesWith test steps b.items in
    let last = each_before P mid within (subst (AllByRecursion P) n none) in
    let first = each_before P old without (subst (AllByRecursion P) m last.0) in
    (first.0, divided_rejects test steps branch without.items within.items leaf s t by_no by_yes first.1 last.1)

-- the two parts have the branch's steps
pub divided_steps : (steps : List (Step CompiledLeaf)) (without within : Vec ValuedStep Global) (old mid new : List (Vec ValuedStep Global))
    → mid ≡ old ++ without ∷ [] → new ≡ mid ++ within ∷ [] → steps_in without.items ≡ steps → steps_in within.items ≡ steps
    → HaveSteps steps old → HaveSteps steps new
divided_steps steps without within old mid new m n s t have =
    let P : Vec ValuedStep Global → Type 0 = λ b. steps_in b.items ≡ steps in
    subst (AllByRecursion P) (sym n) (each_pushed P mid within (subst (AllByRecursion P) (sym m) (each_pushed P old without have s)) t)

-- the branch that is looked at has the steps, and so have those that are pending then
pub kept_steps : (steps : List (Step CompiledLeaf)) (old mid new : List (Vec ValuedStep Global)) (branch : Vec ValuedStep Global)
    → old ≡ mid ++ branch ∷ [] → (HaveSteps (steps_in branch.items) mid → HaveSteps (steps_in branch.items) new)
    → HaveSteps steps old → HaveSteps steps new × (steps_in branch.items ≡ steps)
kept_steps steps old mid new branch e keeps have =
    let P : Vec ValuedStep Global → Type 0 = λ b. steps_in b.items ≡ steps in
    let before = each_before P mid branch (subst (AllByRecursion P) e have) in
    (subst (λ s. HaveSteps s new) before.1 (keeps (subst (λ s. HaveSteps s mid) (sym before.1) before.0)), before.1)

-- where the values of a branch tell that the answer is yes, no test at which it is no agrees with it
pub met_rejects : (question : Question) (branch : List ValuedStep) (seen : List StackValue) → kleene_run branch [] ≡ Some (tops seen)
    → ((answers : List Bool) → Fits answers (map (λ s. s.value) seen) → met question answers ≡ true)
    → Rejects question branch
met_rejects question branch seen ran says test steps missed agrees =
    let known = values_known test branch missed.formulas seen agrees.1 (agrees.0 ∙ missed.made) ran in
    let right = fits test missed.formulas (map (λ s. s.value) seen) missed.answers known missed.are in
    false≢true (sym missed.unmet ∙ says missed.answers right)

-- a branch that is looked at goes from those that are pending
pub one_fewer : (test : AnyTest) (steps : List (Step CompiledLeaf)) (old mid new : List (Vec ValuedStep Global)) (branch : Vec ValuedStep Global)
    → old ≡ mid ++ branch ∷ [] → (NoneAgrees test steps new → NoneAgrees test steps mid × (¬ AgreesWith test steps branch.items))
    → ¬ NoneAgrees test steps old → ¬ NoneAgrees test steps new
one_fewer test steps old mid new branch e looked some none =
    let P : Vec ValuedStep Global → Type 0 = λ b. ¬ AgreesWith test steps b.items in
    let left = looked none in
    some (subst (AllByRecursion P) (sym e) (each_pushed P mid branch left.0 left.1))

-- the answers as those of formulas
pub are_of_formulas : (default : CompiledExpr) (test : AnyTest) (exprs : List (Bor CompiledExpr)) (answers : List Bool) → AreAnswers default test exprs answers
    → AllZip (λ answer formula. IsTrue answer ↔ TrueWhere (Says test) formula) answers (map (λ e. with_default default e.now) exprs)
are_of_formulas default test [] [] are = tt
are_of_formulas default test [] (x ∷ answers) are = absurd are
are_of_formulas default test (e ∷ exprs) [] are = absurd are
are_of_formulas default test (e ∷ exprs) (x ∷ answers) are = (are.0, are_of_formulas default test exprs answers are.1)

-- where nothing is missed the answer is yes
pub always : (question : Question) (given default : CompiledExpr) (exprs : List (Bor CompiledExpr)) (steps : List (Step CompiledLeaf))
    → steps ≡ all_steps (with_default default given ∷ map (λ e. with_default default e.now) exprs)
    → ((test : AnyTest) → ¬ IsMissed question steps test) → IsAlwaysMet question given default exprs
always question given default exprs steps made none test is_given answers are =
    true_unless_false (answer_of question answers) (λ unmet. none test (record {
      formulas = with_default default given ∷ map (λ e. with_default default e.now) exprs;
      made = made;
      answers = true ∷ answers;
      are = ((λ e. is_given, λ h. refl), are_of_formulas default test exprs answers are);
      unmet = unmet;
    }))
