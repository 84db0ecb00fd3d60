-- The answers of filtersets that are laid out.
use Rattle.std.proofs.Common.{◌≡◌, ◌∙◌, ◌↔◌, ◌<◌, ◌+◌, ℕ, suc, Bool, true, false, List, [], ◌∷◌, ◌++◌, IsTrue, arith, ap, drop, get_or, length, map, refl, sym, take}
use Rattle.std.proofs.{Math.Seq.split_at, lemmas.Bool.or_parts as neither, lemmas.Bool.false≢true}
use Rattle.std.proofs.lemmas.List.{take_more, Elements.All-contains, Elements.All-map, Elements.All-push}
use Rattle.std.specs.{Borrow.Bor, List.AllZip, List.count_by, List.list_any}
use Rattle.std.specs.Prelude.{◌||◌, All, Contains}
use Rattle.filterset_expression.specs.Expression.{is_group, with_default}
use Rattle.filterset_expression.specs.FlatExpressions.{IsFlat, has_step}
use Rattle.filterset_expression.specs.declared.{expression.CompiledExpr.CompiledExpr, flat.FlatExpr.FlatExpr}
use Rattle.filterset_expression.specs.declared.query.TestQuery.{TestQuery}
use Rattle.filterset_expression.proofs.{FlatSteps.no_group_of_steps, LeafAnswers.lookups_alike}
use Rattle.filterset_deciding.specs.AnyTest.{AreAnswersAsked, AreLaid, IsPickOf, PicksAsked, in_group}
use Rattle.filterset_deciding.specs.Deciding.{answer_of}
use Rattle.filterset_deciding.specs.Listed.{AreOfQuestion, IsFirstUnmet, IsMetAsked, IsMetByAll, IsUnmetIn, asks_group}
use Rattle.filterset_deciding.specs.{Question.is_met, declared.listed.LaidQuestion.LaidQuestion}
use Rattle.filterset_deciding.specs.declared.{question.Question.Question, witness.PossibleTest.PossibleTest}

-- the answers of the steps are those of the filtersets
pub answers_of_laid : (default : CompiledExpr) (query : TestQuery) (group : List ℕ) (exprs : List (Bor CompiledExpr)) (flats : List FlatExpr) (answers : List Bool)
    → AreLaid default exprs flats → AllZip (IsPickOf query group) flats answers → AreAnswersAsked default query group exprs answers
answers_of_laid default query group [] [] [] laid are = tt
answers_of_laid default query group [] [] (x ∷ answers) laid are = absurd are
answers_of_laid default query group [] (flat ∷ flats) answers laid are = absurd laid
answers_of_laid default query group (e ∷ exprs) [] answers laid are = absurd laid
answers_of_laid default query group (e ∷ exprs) (flat ∷ flats) [] laid are = absurd are
answers_of_laid default query group (e ∷ exprs) (flat ∷ flats) (x ∷ answers) laid are =
    (are.0 e.now default laid.0, answers_of_laid default query group exprs flats answers laid.1 are.1)

-- a proposition has one truth value
same_truth : {P : Type 0} (x y : Bool) → IsTrue x ↔ P → IsTrue y ↔ P → x ≡ y
same_truth true true is also = refl
same_truth false false is also = refl
same_truth true false is also = absurd (false≢true (also.1 (is.0 refl)))
same_truth false true is also = absurd (false≢true (is.1 (also.0 refl)))

-- so the answers are the only ones
pub same_answers : (default : CompiledExpr) (query : TestQuery) (group : List ℕ) (exprs : List (Bor CompiledExpr)) (xs ys : List Bool)
    → AreAnswersAsked default query group exprs xs → AreAnswersAsked default query group exprs ys → xs ≡ ys
same_answers default query group [] [] [] are also = refl
same_answers default query group [] [] (y ∷ ys) are also = absurd also
same_answers default query group [] (x ∷ xs) ys are also = absurd are
same_answers default query group (e ∷ exprs) [] ys are also = absurd are
same_answers default query group (e ∷ exprs) (x ∷ xs) [] are also = absurd also
same_answers default query group (e ∷ exprs) (x ∷ xs) (y ∷ ys) are also =
    ap (λ z. z ∷ xs) (same_truth x y are.0 also.0) ∙ ap (λ zs. y ∷ zs) (same_answers default query group exprs xs ys are.1 also.1)

-- what is said of the number of answers that are yes is said of the answers
pub answer_of_count : (question : Question) (answers : List Bool) (count total : ℕ) (answer : Bool) → count ≡ count_by (λ x. x) answers → total ≡ length answers
    → is_met question count total ≡ answer → answer_of question answers ≡ answer
answer_of_count question answers count total answer counted long is = rw (sym counted, sym long) is

-- one more element passes
pub all_more : {X : Type 0} (P : X → Type 0) (xs : List X) (i : ℕ) (d : X) → i < length xs → All P (take i xs) → P (get_or xs i d) → All P (take (i + 1) xs)
all_more P xs i d lt all here = rw (take_more xs i d lt) (All-push P (take i xs) (get_or xs i d) all here)

-- what is so for each query in each group is so for each test
pub met_by_all : (laid : LaidQuestion) (given default : CompiledExpr) (exprs : List (Bor CompiledExpr)) (tests : List TestQuery) (groups : List (Bor (List ℕ)))
    → AreOfQuestion given default exprs laid → All (λ query. All (λ g. IsMetAsked laid query g.now) groups) tests
    → IsMetByAll laid.question given default exprs tests groups
met_by_all laid given default exprs tests groups of met = λ test is_listed is_grouped picks answers are.
    let Met : List ℕ → Type 0 = λ group. IsMetAsked laid test.query group in
    let own = All-contains (λ (query : TestQuery). All (λ (g : Bor (List ℕ)). IsMetAsked laid query g.now) groups) tests test.query met is_listed in
    let each : All Met (map (λ (g : Bor (List ℕ)). g.now) groups) = All-map Met (λ (g : Bor (List ℕ)). g.now) groups own in
    All-contains Met (map (λ (g : Bor (List ℕ)). g.now) groups) test.group each is_grouped given default exprs of picks answers are

-- the first test for which the answer is no
pub first_unmet : (question : Question) (given default : CompiledExpr) (exprs : List (Bor CompiledExpr)) (tests : List TestQuery) (groups asked : List (Bor (List ℕ)))
    (i : ℕ) (query : TestQuery) (possible : PossibleTest) (answers : List Bool) → i < length tests → get_or tests i query ≡ query
    → ((group : List ℕ) → Contains (map (λ (g : Bor (List ℕ)). g.now) asked) group → Contains (map (λ (g : Bor (List ℕ)). g.now) groups) group)
    → IsUnmetIn given default exprs question query asked possible answers → IsMetByAll question given default exprs (take i tests) groups
    → IsFirstUnmet question given default exprs tests groups possible answers
first_unmet question given default exprs tests groups asked i query possible answers lt at within found met = record {
  at = found.at;
  before = take i tests;
  after = drop (suc i) tests;
  is_listed = split_at tests i query lt ∙ ap (λ q. take i tests ++ q ∷ drop (suc i) tests) (at ∙ sym found.is_asked);
  is_grouped = within found.at.test.group found.is_grouped;
  is_first = met;
}

-- ---- filtersets that ask for no group

module _ (query : TestQuery) (default : CompiledExpr) (one other : List ℕ) where
  same_pick : (flat : FlatExpr) (expr : CompiledExpr) → IsFlat flat expr default → has_step is_group flat ≡ false
      → PicksAsked default query one expr ↔ PicksAsked default query other expr
  same_pick flat expr is none =
      lookups_alike (with_default default expr) query (in_group one) (in_group other) (no_group_of_steps flat.steps.items expr default is none)

  -- they have the same answers in two groups
  same_in_groups : (exprs : List (Bor CompiledExpr)) (flats : List FlatExpr) (answers : List Bool) → AreLaid default exprs flats → list_any (has_step is_group) flats ≡ false
      → AreAnswersAsked default query one exprs answers → AreAnswersAsked default query other exprs answers
  same_in_groups [] [] answers laid none are = are
  same_in_groups [] (flat ∷ flats) answers laid none are = absurd laid
  same_in_groups (e ∷ exprs) [] answers laid none are = absurd laid
  same_in_groups (e ∷ exprs) (flat ∷ flats) [] laid none are = absurd are
  same_in_groups (e ∷ exprs) (flat ∷ flats) (x ∷ answers) laid none are =
      let parts = neither (has_step is_group flat) (list_any (has_step is_group) flats) none in
      let same = same_pick flat e.now laid.0 parts.0 in
      ((λ yes. same.0 (are.0.0 yes), λ picks. are.0.1 (same.1 picks)), same_in_groups exprs flats answers laid.1 parts.1 are.1)

-- so an answer that is yes in a group is yes in each
met_in_other : (laid : LaidQuestion) (query : TestQuery) (one other : List ℕ) → asks_group laid ≡ false → IsMetAsked laid query one → IsMetAsked laid query other
met_in_other laid query one other none met = λ given default exprs of picks answers are.
    let parts = neither (has_step is_group laid.given) (list_any (has_step is_group) laid.exprs.items) none in
    met given default exprs of ((same_pick query default one other laid.given given of.given_laid parts.0).1 picks) answers
    (same_in_groups query default other one exprs laid.exprs.items answers of.exprs_laid parts.1 are)

pub met_in_first : (laid : LaidQuestion) (query : TestQuery) (groups : List (Bor (List ℕ))) → asks_group laid ≡ false
    → All (λ (g : Bor (List ℕ)). IsMetAsked laid query g.now) (take 1 groups) → All (λ (g : Bor (List ℕ)). IsMetAsked laid query g.now) groups
met_in_first laid query [] none met = met
met_in_first laid query (g ∷ groups) none met =
    let own : IsMetAsked laid query g.now = met 0 g (omega arith) in
    λ k d lt. met_in_other laid query g.now (get_or (g ∷ groups) k d).now none own
