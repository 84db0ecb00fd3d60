-- Lists of steps, and how they run.
use Rattle.std.proofs.Common.{◌≡◌, ℕ, zero, suc, ◌+◌, ◌-◌, ◌<◌, ◌≤◌, max, Bool, true, false, ◌||◌, refl, sym, ap, ◌∙◌, subst, List, [], ◌∷◌, ◌++◌, length, drop, get_or, append_assoc, arith}
use Rattle.std.specs.List.{list_any}
use Rattle.std.proofs.lemmas.List.{append-nil, drop_more, map-append, Folds.list_any-append}
use Rattle.std.proofs.{Math.Bool.or-false, lemmas.Bool.and_parts, lemmas.Bool.or_parts, lemmas.Bool.Decides.nat_tests}
use Rattle.filterset_expression.specs.Connectives.{Connective}
use Rattle.filterset_expression.specs.Expression.{CompiledLeaf, formula, is_default, is_group, leaf_with_default, with_default, has_leaf}
use Rattle.filterset_expression.specs.FlatExpressions.{leaf_passes}
use Rattle.filterset_expression.specs.Formula.{Formula, Leaf, Negation, Compound, leaves, replaced}
use Rattle.filterset_expression.specs.Running.{leaf_or, one_less, height_after, finds_operands, leaves_one, greatest_height}
use Rattle.filterset_expression.specs.FlatSteps.{Step, Negate, Combine, steps_by, push_leaf, postfix, step_of, steps_of}
use Rattle.filterset_expression.specs.declared.{expression.CompiledExpr.CompiledExpr, flat.steps.FlatStep.FlatStep}
use Rattle.filterset_expression.specs.Expression as compiled
use Rattle.filterset_expression.specs.declared.flat.steps.FlatStep.TheVariants as step

pub one_less-is : (n : ℕ) → one_less n ≡ n - 1
one_less-is n = grind (arith, nat_tests)

-- each step of a formula finds its operands, and one value is left for it
pub postfix_leaves_one : {A : Type 0} (f : Formula A) (rest : List (Step A)) (height : ℕ) → leaves_one (postfix f ++ rest) height ≡ leaves_one rest (suc height)
postfix_leaves_one (Leaf leaf) rest height = refl
postfix_leaves_one (Negation f) rest height = rw append_assoc (postfix_leaves_one f (Negate ∷ rest) height)
postfix_leaves_one (Compound c f g) rest height =
    rw append_assoc (postfix_leaves_one f ((postfix g ++ Combine c ∷ []) ++ rest) height ∙ rw append_assoc (postfix_leaves_one g (Combine c ∷ rest) (suc height)))

-- past the steps of a formula the stack is no higher than before
pub greatest_past : {A : Type 0} (f : Formula A) (rest : List (Step A)) (height : ℕ) → greatest_height rest (suc height) ≤ greatest_height (postfix f ++ rest) height
greatest_past (Leaf leaf) rest height = omega arith
greatest_past (Negation f) rest height =
    rw append_assoc (let inner = greatest_past f (Negate ∷ rest) height in omega (arith, inner))
greatest_past (Compound c f g) rest height =
    rw append_assoc (rw append_assoc (let left = greatest_past f (postfix g ++ Combine c ∷ rest) height in let right = greatest_past g (Combine c ∷ rest) (suc height) in omega (arith, left, right)))

-- the steps of a formula with others in the place of its leaves
pub steps_by_same : {A B : Type 0} (p q : A → List (Step B)) → ((leaf : A) → p leaf ≡ q leaf) → (f : Formula A) → steps_by p f ≡ steps_by q f
steps_by_same p q same (Leaf leaf) = same leaf
steps_by_same p q same (Negation f) = ap (λ s. s ++ Negate ∷ []) (steps_by_same p q same f)
steps_by_same p q same (Compound c f g) =
    let left = steps_by_same p q same f in let right = steps_by_same p q same g in cc

pub postfix_replaced : {A B : Type 0} (at : A → Formula B) (f : Formula A) → postfix (replaced at f) ≡ steps_by (λ leaf. postfix (at leaf)) f
postfix_replaced at (Leaf leaf) = refl
postfix_replaced at (Negation f) = ap (λ s. s ++ Negate ∷ []) (postfix_replaced at f)
postfix_replaced at (Compound c f g) =
    let left = postfix_replaced at f in let right = postfix_replaced at g in cc

leaf_or-postfix : (default : CompiledExpr) (l : CompiledLeaf) → leaf_or (postfix (formula default)) l ≡ postfix (leaf_with_default default l)
leaf_or-postfix default compiled.Default = refl
leaf_or-postfix default _ = refl

-- with the default filter's steps in the place of each `default` leaf
pub steps_with_default : (default e : CompiledExpr) → steps_by (leaf_or (postfix (formula default))) (formula e) ≡ postfix (with_default default e)
steps_with_default default e =
    steps_by_same _ _ (leaf_or-postfix default) (formula e) ∙ sym (postfix_replaced (leaf_with_default default) (formula e))

leaf_or-plain : (others : List (Step CompiledLeaf)) (l : CompiledLeaf) → is_default l ≡ false → leaf_or others l ≡ push_leaf l
leaf_or-plain others compiled.Default e = absurd (let clash : true ≡ false = e in cc)
leaf_or-plain others _ e = refl

-- an expression without `default` leaves has its own steps alone
steps_without_default : (others : List (Step CompiledLeaf)) (f : Formula CompiledLeaf) → list_any is_default (leaves f) ≡ false → steps_by (leaf_or others) f ≡ postfix f
steps_without_default others (Leaf l) e = leaf_or-plain others l (or_parts (is_default l) false e).0
steps_without_default others (Negation f) e = ap (λ s. s ++ Negate ∷ []) (steps_without_default others f e)
steps_without_default others (Compound c f g) e =
    let both : (list_any is_default (leaves f) || list_any is_default (leaves g)) ≡ false = sym (list_any-append is_default (leaves f) (leaves g)) ∙ e in
    let left = steps_without_default others f (or_parts (list_any is_default (leaves f)) (list_any is_default (leaves g)) both).0 in
    let right = steps_without_default others g (or_parts (list_any is_default (leaves f)) (list_any is_default (leaves g)) both).1 in
    cc

pub default_steps : (default : CompiledExpr) (others : List (Step CompiledLeaf)) → has_leaf is_default default ≡ false → steps_by (leaf_or others) (formula default) ≡ postfix (formula default)
default_steps default others e = steps_without_default others (formula default) e

module _ {A : Type 0} (s : Step A) (rest : List (Step A)) (height after : ℕ) where
  -- the steps that are left after one
  pub leaves_one_on : height_after s height ≡ after → leaves_one (s ∷ rest) height ≡ true → leaves_one rest after ≡ true
  leaves_one_on e runs = rw (← e) (and_parts (finds_operands s height) _ runs).1

  pub greatest_on : height_after s height ≡ after → greatest_height (s ∷ rest) height ≡ max height (greatest_height rest after)
  greatest_on e = rw e refl

-- the stack is never higher than its greatest height
pub greatest_above : {A : Type 0} (steps : List (Step A)) (height : ℕ) → height ≤ greatest_height steps height
greatest_above [] height = omega arith
greatest_above (s ∷ steps) height = omega arith

-- a negation finds its operand, a connective its two, and what is left at the end is one value
pub one_to_negate : {A : Type 0} (rest : List (Step A)) (height : ℕ) → leaves_one (Negate ∷ rest) height ≡ true → 0 < height
one_to_negate rest zero e = absurd (let clash : false ≡ true = e in cc)
one_to_negate rest (suc height) e = omega arith

pub two_to_combine : {A : Type 0} (c : Connective) (rest : List (Step A)) (height : ℕ) → leaves_one (Combine c ∷ rest) height ≡ true → 1 < height
two_to_combine c rest zero e = absurd (let clash : false ≡ true = e in cc)
two_to_combine c rest (suc zero) e = absurd (let clash : false ≡ true = e in cc)
two_to_combine c rest (suc (suc height)) e = omega arith

pub one_at_end : {A : Type 0} (steps : List (Step A)) (height : ℕ) → steps ≡ [] → leaves_one steps height ≡ true → 0 < height
one_at_end {A} steps zero none e =
    absurd (let clash : leaves_one {A = A} [] 0 ≡ true = rw none at e in cc)
one_at_end steps (suc height) none e = omega arith

-- the steps from one position on
pub steps_from : (steps : List FlatStep) (at : ℕ) (s : FlatStep) → at < length steps → s ≡ get_or steps at s → steps_of (drop at steps) ≡ step_of s ∷ steps_of (drop (at + 1) steps)
steps_from steps at s within e = rw (drop_more steps at s within, ← e) refl

-- the steps of an expression, made with those of the default filter
pub made_steps : (default e : CompiledExpr) (inner outer : List FlatStep) → has_leaf is_default default ≡ false → steps_of inner ≡ steps_by (leaf_or []) (formula default) → steps_of outer ≡ steps_by (leaf_or (steps_of inner)) (formula e) → steps_of outer ≡ postfix (with_default default e)
made_steps default e inner outer plain a b =
    let own : steps_of inner ≡ postfix (formula default) = a ∙ default_steps default [] plain in
    b ∙ ap (λ s. steps_by (leaf_or s) (formula e)) own ∙ steps_with_default default e

-- the step of a negation, behind those of its operand
pub negated_steps : (at : CompiledLeaf → List (Step CompiledLeaf)) (f : Formula CompiledLeaf) (old inner new : List FlatStep) → steps_of inner ≡ steps_of old ++ steps_by at f → new ≡ inner ++ step.Not ∷ [] → steps_of new ≡ steps_of old ++ steps_by at (Negation f)
negated_steps at f old inner new i n =
    ap steps_of n ∙ map-append step_of inner (step.Not ∷ []) ∙ ap (λ s. s ++ Negate ∷ []) i ∙ append_assoc (steps_of old) (steps_by at f) (Negate ∷ [])

-- the step of a connective, behind those of its operands
pub combined_steps : (at : CompiledLeaf → List (Step CompiledLeaf)) (c : Connective) (f g : Formula CompiledLeaf) (old left right new : List FlatStep) (s : FlatStep) → step_of s ≡ Combine c → steps_of left ≡ steps_of old ++ steps_by at f → steps_of right ≡ steps_of left ++ steps_by at g → new ≡ right ++ s ∷ [] → steps_of new ≡ steps_of old ++ steps_by at (Compound c f g)
combined_steps at c f g old left right new s e l r n =
    ap steps_of n ∙ map-append step_of right (s ∷ []) ∙ ap (λ t. t ++ step_of s ∷ []) (r ∙ ap (λ t. t ++ steps_by at g) l) ∙ append_assoc (steps_of old ++ steps_by at f) (steps_by at g) (step_of s ∷ []) ∙ append_assoc (steps_of old) (steps_by at f) (steps_by at g ++ step_of s ∷ []) ∙ ap (λ t. steps_of old ++ (steps_by at f ++ (steps_by at g ++ t ∷ []))) e

pub postfix_runs : {A : Type 0} (f : Formula A) → leaves_one (postfix f) 0 ≡ true
postfix_runs f = subst (λ s. leaves_one s 0 ≡ true) (append-nil (postfix f)) (postfix_leaves_one f [] 0)

none_joined : {X : Type 0} (p : X → Bool) (xs ys : List X) → list_any p xs ≡ false → list_any p ys ≡ false → list_any p (xs ++ ys) ≡ false
none_joined p xs ys e k = list_any-append p xs ys ∙ rw (e, k) refl

-- where no leaf passes a test, and none of what stands in the place of a leaf does, none of the whole does
module _ {A B : Type 0} (p : A → Bool) (q : B → Bool) (at : A → Formula B) (none_at : (leaf : A) → p leaf ≡ false → list_any q (leaves (at leaf)) ≡ false) where
  pub none_replaced : (f : Formula A) → list_any p (leaves f) ≡ false → list_any q (leaves (replaced at f)) ≡ false
  none_replaced (Leaf leaf) e = none_at leaf (or_parts (p leaf) false e).0
  none_replaced (Negation f) e = none_replaced f e
  none_replaced (Compound c f g) e =
      let both : (list_any p (leaves f) || list_any p (leaves g)) ≡ false = sym (list_any-append p (leaves f) (leaves g)) ∙ e in
      none_joined q (leaves (replaced at f)) (leaves (replaced at g)) (none_replaced f (or_parts (list_any p (leaves f)) (list_any p (leaves g)) both).0) (none_replaced g (or_parts (list_any p (leaves f)) (list_any p (leaves g)) both).1)

no_group_with_default : (default : CompiledExpr) → has_leaf is_group default ≡ false → (l : CompiledLeaf) → is_group l ≡ false → list_any is_group (leaves (leaf_with_default default l)) ≡ false
no_group_with_default default none compiled.Default e = none
no_group_with_default default none (compiled.Group matcher span) e = absurd (let clash : true ≡ false = e in cc)
no_group_with_default default none _ e = refl

any_of_both : (test : CompiledLeaf → Bool) (f g : Formula CompiledLeaf) (last : Step CompiledLeaf) → leaf_passes test last ≡ false → list_any (leaf_passes test) (postfix f) ≡ list_any test (leaves f) → list_any (leaf_passes test) (postfix g) ≡ list_any test (leaves g) → list_any (leaf_passes test) (postfix f ++ (postfix g ++ last ∷ [])) ≡ list_any test (leaves f ++ leaves g)
any_of_both test f g last passes left right =
    list_any-append (leaf_passes test) (postfix f) (postfix g ++ last ∷ [])
    ∙ rw (list_any-append (leaf_passes test) (postfix g) (last ∷ []), passes, or-false, left, right, list_any-append test (leaves f) (leaves g)) refl

-- the leaves among the steps are those of the formula
any_of_postfix : (test : CompiledLeaf → Bool) (f : Formula CompiledLeaf) → list_any (leaf_passes test) (postfix f) ≡ list_any test (leaves f)
any_of_postfix test (Leaf leaf) = refl
any_of_postfix test (Negation f) =
    list_any-append (leaf_passes test) (postfix f) (Negate ∷ []) ∙ or-false (list_any (leaf_passes test) (postfix f)) ∙ any_of_postfix test f
any_of_postfix test (Compound c f g) =
    any_of_both test f g (Combine c) refl (any_of_postfix test f) (any_of_postfix test g)

any_of_steps : (test : CompiledLeaf → Bool) (steps : List FlatStep) → list_any (λ s. leaf_passes test (step_of s)) steps ≡ list_any (leaf_passes test) (steps_of steps)
any_of_steps test [] = refl
any_of_steps test (s ∷ steps) = ap (λ b. leaf_passes test (step_of s) || b) (any_of_steps test steps)

-- the leaves among the steps of a flat expression are those of the formula that it stands for
any_of_flat : (test : CompiledLeaf → Bool) (steps : List FlatStep) (f : Formula CompiledLeaf) → steps_of steps ≡ postfix f → list_any (λ s. leaf_passes test (step_of s)) steps ≡ list_any test (leaves f)
any_of_flat test steps f same = any_of_steps test steps ∙ ap (list_any (leaf_passes test)) same ∙ any_of_postfix test f

-- no leaf is a `group` where no step is
pub no_group_of_steps : (steps : List FlatStep) (e default : CompiledExpr) → steps_of steps ≡ postfix (with_default default e) → list_any (λ s. leaf_passes is_group (step_of s)) steps ≡ false → list_any is_group (leaves (with_default default e)) ≡ false
no_group_of_steps steps e default same none = sym (any_of_flat is_group steps (with_default default e) same) ∙ none

-- no step is a `group` leaf where neither the expression nor the default filter holds one
pub no_group_step : (steps : List FlatStep) (e default : CompiledExpr) → steps_of steps ≡ postfix (with_default default e) → has_leaf is_group e ≡ false → has_leaf is_group default ≡ false → list_any (λ s. leaf_passes is_group (step_of s)) steps ≡ false
no_group_step steps e default same none none_default =
    any_of_flat is_group steps (with_default default e) same ∙ none_replaced is_group is_group (leaf_with_default default) (no_group_with_default default none_default) (formula e) none

-- no leaf passes a test that none passes
none_of_all : {A : Type 0} (f : Formula A) → list_any (λ l. false) (leaves f) ≡ false
none_of_all (Leaf l) = refl
none_of_all (Negation f) = none_of_all f
none_of_all (Compound c f g) = none_joined (λ l. false) (leaves f) (leaves g) (none_of_all f) (none_of_all g)

no_default_with_default : (default : CompiledExpr) → has_leaf is_default default ≡ false → (l : CompiledLeaf) → list_any is_default (leaves (leaf_with_default default l)) ≡ false
no_default_with_default default none compiled.Default = none
no_default_with_default default none _ = refl

-- no step is a `default` leaf where the default filter holds none
pub no_default_step : (steps : List FlatStep) (e default : CompiledExpr) → steps_of steps ≡ postfix (with_default default e) → has_leaf is_default default ≡ false → list_any (λ s. leaf_passes is_default (step_of s)) steps ≡ false
no_default_step steps e default same none =
    any_of_flat is_default steps (with_default default e) same ∙ none_replaced (λ l. false) is_default (leaf_with_default default) (λ l e. no_default_with_default default none l) (formula e) (none_of_all (formula e))
