-- Unknown values, and what they wait for.
use Rattle.std.proofs.Common.{◌≡◌, ◌∙◌, ◌<◌, ◌+◌, ◌≢◌, ℕ, Bool, true, false, not, Option, Some, None, refl, sym, ap, subst, cond, List, [], ◌∷◌, length, get_or}
use Rattle.std.specs.List.{AllByRecursion, count_by}
use Rattle.std.proofs.lemmas.List.{get_or_default, Sums.sum_by-cons}
use Rattle.filterset_expression.specs.{Connectives.kleene, Connectives.kleene_not, declared.logic.Connective.Connective}
use Rattle.filterset_expression.specs.declared.logic.Connective.TheVariants.{Conjunction, Disjunction, ExclusiveDisjunction}
use Rattle.filterset_expression.specs.{Expression.CompiledLeaf, FlatSteps.Push, FlatSteps.step_of}
use Rattle.filterset_deciding.specs.Judging.{is_yes, is_maybe}
use Rattle.filterset_deciding.specs.Waiting.{IsOpenAt, IsOpenStep, IsSettled, WaitsAt, WaitsIn}
use Rattle.filterset_deciding.specs.declared.running.{StackValue.StackValue, ValuedStep.ValuedStep}
use Rattle.filterset_deciding.proofs.Doubts.{of_each}

no_value : {A : Type 0} (x : A) → Some x ≡ None → ⊥
no_value x e = cc

pub not_none : (v : Option Bool) → kleene_not v ≡ None → v ≡ None
not_none None e = refl
not_none (Some b) e = absurd (no_value (not b) e)

-- where a connective makes nothing known of a left value that is known, the right one is unknown
pub right_none : (c : Connective) (x : Bool) (y : Option Bool) → kleene c (Some x) y ≡ None → y ≡ None
right_none Conjunction true y e = e
right_none Conjunction false y e = absurd (no_value false e)
right_none Disjunction true y e = absurd (no_value true e)
right_none Disjunction false None e = refl
right_none Disjunction false (Some b) e = absurd (no_value b e)
right_none ExclusiveDisjunction x None e = refl
right_none ExclusiveDisjunction x (Some b) e = absurd (let clash : kleene ExclusiveDisjunction (Some x) (Some b) ≡ None = e in cc)

some_side : (c : Connective) (x y : Option Bool) → x ≢ None → kleene c x y ≡ None → y ≡ None
some_side c None y known e = absurd (known refl)
some_side c (Some x) y known e = right_none c x y e

pub waits_negated : (branch : List ValuedStep) (operand result : StackValue) → result.value ≡ kleene_not operand.value → result.waits_for ≡ operand.waits_for
    → WaitsIn branch operand → WaitsIn branch result
waits_negated branch operand result v w waits none = subst (IsOpenAt branch) (sym w) (waits (not_none operand.value (sym v ∙ none)))

-- the left operand is unknown, and waited for
pub waits_left : (branch : List ValuedStep) (left result : StackValue) → left.value ≡ None → result.waits_for ≡ left.waits_for → WaitsIn branch left → WaitsIn branch result
waits_left branch left result e w waits none = subst (IsOpenAt branch) (sym w) (waits e)

-- the left operand is known, so the right one is waited for
pub waits_right : (branch : List ValuedStep) (c : Connective) (left right result : StackValue) → left.value ≢ None → result.value ≡ kleene c left.value right.value
    → result.waits_for ≡ right.waits_for → WaitsIn branch right → WaitsIn branch result
waits_right branch c left right result known v w waits none =
    subst (IsOpenAt branch) (sym w) (waits (some_side c left.value right.value known (sym v ∙ none)))

-- a leaf at its position
pub waits_leaf : (branch : List ValuedStep) (at : ℕ) (placed : ValuedStep) (leaf : CompiledLeaf) (result : StackValue) → at < length branch → get_or branch at placed ≡ placed
    → step_of placed.step ≡ Push leaf → result.value ≡ placed.value → result.waits_for ≡ at → WaitsIn branch result
waits_leaf branch at placed leaf result lt here step v w none =
    let P : ℕ → Type 0 = IsOpenAt branch in
    subst P (sym w) (
      lt,
      λ other there.
          let same : placed ≡ other = sym here ∙ get_or_default branch at placed other lt ∙ there in
          subst IsOpenStep same (record { leaf = leaf; step = step; value = sym v ∙ none }),
    )

-- ---- judging

-- where all values are known, as many may be yes as are
pub settled_counts : (values : List StackValue) → AllByRecursion IsSettled values → count_by (λ s. is_yes s.value) values ≡ count_by (λ s. is_maybe s.value) values
settled_counts [] all = refl
settled_counts (s ∷ values) all =
    let yes : count_by (λ s. is_yes s.value) (s ∷ values) ≡ cond (is_yes s.value) 1 0 + count_by (λ s. is_yes s.value) values = sum_by-cons _ s values in
    let maybe : count_by (λ s. is_maybe s.value) (s ∷ values) ≡ cond (is_maybe s.value) 1 0 + count_by (λ s. is_maybe s.value) values = sum_by-cons _ s values in
    let one = settled_one s.value all.0 in
    let others = settled_counts values all.1 in
    yes ∙ ap (λ k. cond k 1 0 + count_by (λ s. is_yes s.value) values) one ∙ ap (λ k. cond (is_maybe s.value) 1 0 + k) others ∙ sym maybe
  where
    settled_one : (v : Option Bool) → v ≢ None → is_yes v ≡ is_maybe v
    settled_one None known = absurd (known refl)
    settled_one (Some true) known = refl
    settled_one (Some false) known = refl

-- a value that waits, waits for a leaf of the branch without a value
pub some_open : (values : List StackValue) (branch : List ValuedStep) (at : ℕ) → AllByRecursion (WaitsIn branch) values → WaitsAt at values → IsOpenAt branch at
some_open values branch at all waits =
    subst (IsOpenAt branch) waits.3 (of_each (WaitsIn branch) values waits.0 all waits.1 waits.2)
