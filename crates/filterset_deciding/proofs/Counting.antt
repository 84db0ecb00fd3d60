-- Answers that fit values of three, and how many of them are yes.
use Rattle.std.proofs.Common.{◌≡◌, ◌↔◌, ◌+◌, ◌≤◌, Bool, true, false, Option, Some, None, refl, sym, cond, List, [], ◌∷◌, map, length, arith, IsTrue}
use Rattle.std.specs.List.{AllZip, count_by}
use Rattle.std.proofs.lemmas.{Bool.false≢true, List.Sums.sum_by-cons}
use Rattle.filterset_expression.specs.{Expression.CompiledLeaf, Formula.Formula, Formula.TrueWhere}
use Rattle.filterset_deciding.specs.AnyTest.{AnyTest, Says}
use Rattle.filterset_deciding.specs.Judging.{is_yes, is_maybe, FitsOne, Fits}
use Rattle.filterset_deciding.specs.{Known.IsKnown, declared.running.StackValue.StackValue}
use Rattle.filterset_deciding.proofs.Kleene.{AreKnown}

fits_one : (x : Bool) (v : Option Bool) (P : Type 0) → (IsTrue x ↔ P) → IsKnown v P → FitsOne x v
fits_one x None P h k = tt
fits_one x (Some true) P h k = h.1 (k.0 refl)
fits_one true (Some false) P h k = absurd (false≢true (k.1 (h.0 refl)))
fits_one false (Some false) P h k = refl

-- answers that are right fit the values that are known
pub fits : (test : AnyTest) (formulas : List (Formula CompiledLeaf)) (values : List (Option Bool)) (answers : List Bool)
    → AreKnown test formulas values → AllZip (λ answer formula. IsTrue answer ↔ TrueWhere (Says test) formula) answers formulas
    → Fits answers values
fits test [] [] [] known are = tt
fits test [] [] (x ∷ answers) known are = absurd are
fits test [] (v ∷ values) answers known are = absurd known
fits test (f ∷ formulas) [] answers known are = absurd known
fits test (f ∷ formulas) (v ∷ values) [] known are = absurd are
fits test (f ∷ formulas) (v ∷ values) (x ∷ answers) known are =
    (fits_one x v (TrueWhere (Says test) f) are.0 known.0, fits test formulas values answers known.1 are.1)

low_one : (x : Bool) (v : Option Bool) → FitsOne x v → cond (is_yes v) 1 0 ≤ cond x 1 0
low_one true (Some true) h = omega arith
low_one true (Some false) h = omega arith
low_one true None h = omega arith
low_one false (Some true) h = absurd (false≢true h)
low_one false (Some false) h = omega arith
low_one false None h = omega arith

high_one : (x : Bool) (v : Option Bool) → FitsOne x v → cond x 1 0 ≤ cond (is_maybe v) 1 0
high_one true (Some true) h = omega arith
high_one true (Some false) h = absurd (false≢true (sym h))
high_one true None h = omega arith
high_one false (Some true) h = omega arith
high_one false (Some false) h = omega arith
high_one false None h = omega arith

pub low_count : (answers : List Bool) (seen : List StackValue) → Fits answers (map (λ s. s.value) seen)
    → count_by (λ s. is_yes s.value) seen ≤ count_by (λ x. x) answers
low_count [] [] h = omega arith
low_count [] (s ∷ seen) h = absurd h
low_count (x ∷ answers) [] h = absurd h
low_count (x ∷ answers) (s ∷ seen) h =
    let one = low_one x s.value h.0 in
    let others = low_count answers seen h.1 in
    let yes : count_by (λ s. is_yes s.value) (s ∷ seen) ≡ cond (is_yes s.value) 1 0 + count_by (λ s. is_yes s.value) seen = sum_by-cons _ s seen in
    let own : count_by (λ x. x) (x ∷ answers) ≡ cond x 1 0 + count_by (λ x. x) answers = sum_by-cons _ x answers in
    omega (arith, one, others, yes, own)

pub high_count : (answers : List Bool) (seen : List StackValue) → Fits answers (map (λ s. s.value) seen)
    → count_by (λ x. x) answers ≤ count_by (λ s. is_maybe s.value) seen
high_count [] [] h = omega arith
high_count [] (s ∷ seen) h = absurd h
high_count (x ∷ answers) [] h = absurd h
high_count (x ∷ answers) (s ∷ seen) h =
    let one = high_one x s.value h.0 in
    let others = high_count answers seen h.1 in
    let maybe : count_by (λ s. is_maybe s.value) (s ∷ seen) ≡ cond (is_maybe s.value) 1 0 + count_by (λ s. is_maybe s.value) seen = sum_by-cons _ s seen in
    let own : count_by (λ x. x) (x ∷ answers) ≡ cond x 1 0 + count_by (λ x. x) answers = sum_by-cons _ x answers in
    omega (arith, one, others, maybe, own)

pub same_length : (answers : List Bool) (seen : List StackValue) → Fits answers (map (λ s. s.value) seen) → length answers ≡ length seen
same_length [] [] h = refl
same_length [] (s ∷ seen) h = absurd h
same_length (x ∷ answers) [] h = absurd h
same_length (x ∷ answers) (s ∷ seen) h = let others = same_length answers seen h.1 in cc
