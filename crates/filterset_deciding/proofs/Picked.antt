-- What follows from answers that are always met.
use Rattle.std.proofs.Common.{◌≡◌, ◌≢◌, ◌≤◌, ◌+◌, ℕ, zero, suc, Bool, true, false, not, cond, refl, List, [], ◌∷◌, ◌++◌, arith}
use Rattle.std.specs.{Prelude.Contains, Prelude.◌==◌, Prelude.nat_le, Borrow.Bor, List.count_by}
use Rattle.std.proofs.lemmas.{Bool.false≢true, Bool.leb-true, List.Sums.sum_by-cons}
use Rattle.filterset_expression.specs.declared.expression.CompiledExpr.{CompiledExpr}
use Rattle.filterset_deciding.specs.{AnyTest.AnyTest, AnyTest.Picks, AnyTest.AreAnswers, Deciding.answer_of}
use Rattle.filterset_deciding.specs.declared.question.Question.TheVariants.{AllAlike, AtLeastOne, AtMostOne}

pub alike_two : (x y : Bool) → answer_of AllAlike (x ∷ y ∷ []) ≡ true → x ≡ y
alike_two true true e = refl
alike_two true false e = absurd (false≢true e)
alike_two false true e = absurd (false≢true e)
alike_two false false e = refl

-- an element of a longer list
contains_later : {A : Type 0} (x y : A) (xs : List A) → Contains xs x → Contains (y ∷ xs) x
contains_later x y xs h = (suc h.0, omega (arith, h.1), h.2)

picked_one : (default : CompiledExpr) (test : AnyTest) (exprs : List (Bor CompiledExpr)) (answers : List Bool)
    → AreAnswers default test exprs answers → count_by (λ x. x) answers ≢ 0
    → (expr : Bor CompiledExpr) × Contains exprs expr × Picks default test expr.now
picked_one default test [] [] are some = absurd (some refl)
picked_one default test [] (x ∷ answers) are some = absurd are
picked_one default test (e ∷ exprs) [] are some = absurd are
picked_one default test (e ∷ exprs) (true ∷ answers) are some = (e, (zero, omega arith, refl), are.0.0 refl)
picked_one default test (e ∷ exprs) (false ∷ answers) are some =
    let same : count_by (λ x. x) (false ∷ answers) ≡ 0 + count_by (λ x. x) answers = sum_by-cons _ false answers in
    let later = picked_one default test exprs answers are.1 (λ zero_count. some (omega (arith, same, zero_count))) in
    (later.0, contains_later later.0 e exprs later.1, later.2)

some_count : (n : ℕ) → not (n == 0) ≡ true → n ≢ 0
some_count zero e = absurd (false≢true e)
some_count (suc n) e = λ h. omega (arith, h)

pub picked_by_one : (default : CompiledExpr) (test : AnyTest) (exprs : List (Bor CompiledExpr)) (answers : List Bool)
    → AreAnswers default test exprs answers → answer_of AtLeastOne answers ≡ true
    → (expr : Bor CompiledExpr) × Contains exprs expr × Picks default test expr.now
picked_by_one default test exprs answers are e = picked_one default test exprs answers are (some_count (count_by (λ x. x) answers) e)

-- an answer that is true is counted
counted_true : (x : Bool) (answers : List Bool) → x ≡ true → count_by (λ x. x) (x ∷ answers) ≡ 1 + count_by (λ x. x) answers
counted_true true answers e = sum_by-cons _ true answers
counted_true false answers e = absurd (false≢true e)

-- a filterset that picks the test is counted
counted_one : (default : CompiledExpr) (test : AnyTest) (front rest : List (Bor CompiledExpr)) (one : Bor CompiledExpr) (answers : List Bool)
    → AreAnswers default test (front ++ one ∷ rest) answers → Picks default test one.now → 1 ≤ count_by (λ x. x) answers
counted_one default test [] rest one [] are picks = absurd are
counted_one default test [] rest one (x ∷ answers) are picks =
    let own = counted_true x answers (are.0.1 picks) in omega (arith, own)
counted_one default test (e ∷ front) rest one [] are picks = absurd are
counted_one default test (e ∷ front) rest one (x ∷ answers) are picks =
    let later = counted_one default test front rest one answers are.1 picks in
    let same : count_by (λ x. x) (x ∷ answers) ≡ cond x 1 0 + count_by (λ x. x) answers = sum_by-cons _ x answers in
    omega (arith, same, later)

-- two filtersets that pick the test are counted
counted_two : (default : CompiledExpr) (test : AnyTest) (front middle rest : List (Bor CompiledExpr)) (one other : Bor CompiledExpr) (answers : List Bool)
    → AreAnswers default test (front ++ one ∷ (middle ++ other ∷ rest)) answers → Picks default test one.now → Picks default test other.now
    → 2 ≤ count_by (λ x. x) answers
counted_two default test [] middle rest one other [] are picks also = absurd are
counted_two default test [] middle rest one other (x ∷ answers) are picks also =
    let own = counted_true x answers (are.0.1 picks) in
    let later = counted_one default test middle rest other answers are.1 also in
    omega (arith, own, later)
counted_two default test (e ∷ front) middle rest one other [] are picks also = absurd are
counted_two default test (e ∷ front) middle rest one other (x ∷ answers) are picks also =
    let later = counted_two default test front middle rest one other answers are.1 picks also in
    let same : count_by (λ x. x) (x ∷ answers) ≡ cond x 1 0 + count_by (λ x. x) answers = sum_by-cons _ x answers in
    omega (arith, same, later)

at_most_one : (n : ℕ) → nat_le n 1 ≡ true → 2 ≤ n → ⊥
at_most_one n e two = let few : n ≤ 1 = leb-true n 1 e in omega (arith, few, two)

-- answers that count at most one are not of two filtersets that both pick the test
pub picked_twice : (default : CompiledExpr) (test : AnyTest) (front middle rest : List (Bor CompiledExpr)) (one other : Bor CompiledExpr) (answers : List Bool)
    → AreAnswers default test (front ++ one ∷ (middle ++ other ∷ rest)) answers → answer_of AtMostOne answers ≡ true
    → Picks default test one.now → ¬ Picks default test other.now
picked_twice default test front middle rest one other answers are e picks also =
    at_most_one (count_by (λ x. x) answers) e (counted_two default test front middle rest one other answers are picks also)
