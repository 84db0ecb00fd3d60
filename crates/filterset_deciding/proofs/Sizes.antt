-- How many branches a search looks at, at most, and that formulas run.
use Rattle.std.proofs.Common.{◌≡◌, ◌∙◌, ◌<◌, ◌≤◌, ◌+◌, ◌-◌, ◌*◌, ◌^◌, ℕ, zero, suc, Bool, Option, Some, None, refl, sym, ap, subst, List, [], ◌∷◌, ◌++◌, take, length, get_or, append_assoc, length-append, ⊎_elim, arith}
use Rattle.std.proofs.{Math.Nat.pow-suc, lemmas.Bool.cases_lt, lemmas.List.Concat.flat_map-cons}
use Rattle.std.specs.declared.{alloc.Global.Global, vec.Vec.Vec}
use Rattle.filterset_expression.specs.Connectives.{kleene, kleene_not}
use Rattle.filterset_expression.specs.{declared.logic.Connective.Connective, Expression.CompiledLeaf}
use Rattle.filterset_expression.specs.FlatSteps.{Step, Push, Negate, Combine, postfix, step_of}
use Rattle.filterset_expression.specs.Formula.{Formula, Leaf, Negation, Compound}
use Rattle.filterset_deciding.specs.{Known.steps_in, Running.kleene_run, Running.kleene_step, Running.on_stack}
use Rattle.filterset_deciding.specs.Searching.{all_steps, pushed}
use Rattle.filterset_deciding.specs.Waiting.{IsOpenAt, IsOpenStep, all_nodes, nodes, open_of, opens}
use Rattle.filterset_deciding.specs.declared.running.ValuedStep.{ValuedStep}
use Rattle.filterset_deciding.proofs.Agreeing.{take_one}

pub opens-append : (xs ys : List ValuedStep) → opens (xs ++ ys) ≡ opens xs + opens ys
opens-append [] ys = omega arith
opens-append (p ∷ xs) ys = let later = opens-append xs ys in omega (arith, later)

pub opens_pushed : (xs : List ValuedStep) (p : ValuedStep) → opens (xs ++ p ∷ []) ≡ opens xs + open_of (step_of p.step) p.value
opens_pushed xs p = let whole = opens-append xs (p ∷ []) in omega (arith, whole)

pub open_one : (s : Step CompiledLeaf) (v : Option Bool) → open_of s v ≤ 1
open_one (Push leaf) None = omega arith
open_one (Push leaf) (Some b) = omega arith
open_one Negate v = omega arith
open_one (Combine connective) v = omega arith

pub open_some : (s : Step CompiledLeaf) (b : Bool) → open_of s (Some b) ≡ 0
open_some (Push leaf) b = refl
open_some Negate b = refl
open_some (Combine connective) b = refl

-- no more leaves are without a value than there are leaves
pub opens_pushed_leaves : (branch : List ValuedStep) → opens branch ≤ length (pushed (steps_in branch))
opens_pushed_leaves [] = omega arith
opens_pushed_leaves (p ∷ branch) = more (step_of p.step) p.value (opens branch) (steps_in branch) (opens_pushed_leaves branch)
  where
    more : (s : Step CompiledLeaf) (v : Option Bool) (n : ℕ) (steps : List (Step CompiledLeaf)) → n ≤ length (pushed steps) → open_of s v + n ≤ length (pushed (s ∷ steps))
    more (Push leaf) None n steps h = omega (arith, h)
    more (Push leaf) (Some b) n steps h = omega (arith, h)
    more Negate v n steps h = omega (arith, h)
    more (Combine connective) v n steps h = omega (arith, h)

pub nodes_some : (n : ℕ) → 1 ≤ nodes n
nodes_some zero = omega arith
nodes_some (suc n) = omega arith

nodes_step : (n k : ℕ) → nodes n ≤ nodes (k + n)
nodes_step n zero = let e : nodes (0 + n) ≡ nodes n = ap nodes (zero_add n) in omega (arith, e)
  where
    zero_add : (n : ℕ) → 0 + n ≡ n
    zero_add n = omega arith
nodes_step n (suc k) =
    let before = nodes_step n k in
    let e : nodes (suc k + n) ≡ 1 + (nodes (k + n) + nodes (k + n)) = ap nodes (suc_add k n) in
    omega (arith, before, e)
  where
    suc_add : (k n : ℕ) → suc k + n ≡ suc (k + n)
    suc_add k n = omega arith

pub nodes_grow : (m n : ℕ) → m ≤ n → nodes m ≤ nodes n
nodes_grow m n le =
    let e : (n - m) + m ≡ n = omega (arith, le) in
    subst (λ k. nodes m ≤ nodes k) e (nodes_step m (n - m))

-- two parts of a branch have fewer nodes than the branch
pub divided_nodes : (a b n : ℕ) → a < n → b < n → nodes a + nodes b + 1 ≤ nodes n
divided_nodes a b zero la lb = absurd (omega (arith, la))
divided_nodes a b (suc n) la lb =
    let own = nodes_grow a n (omega (arith, la)) in
    let other = nodes_grow b n (omega (arith, lb)) in
    omega (arith, own, other)

pub nodes_power : (n : ℕ) → nodes n + 1 ≡ 2 ^ (n + 1)
nodes_power zero = refl
nodes_power (suc n) =
    let before = nodes_power n in
    let shift : suc n + 1 ≡ suc (n + 1) = omega arith in
    let e : 2 ^ (suc n + 1) ≡ 2 ^ (n + 1) * 2 = ap (λ k. 2 ^ k) shift ∙ pow-suc 2 (n + 1) in
    omega (arith, before, e)

pub all_nodes-append : (xs ys : List (Vec ValuedStep Global)) → all_nodes (xs ++ ys) ≡ all_nodes xs + all_nodes ys
all_nodes-append [] ys = omega arith
all_nodes-append (b ∷ xs) ys = let later = all_nodes-append xs ys in omega (arith, later)

pub all_nodes_pushed : (xs : List (Vec ValuedStep Global)) (b : Vec ValuedStep Global) → all_nodes (xs ++ b ∷ []) ≡ all_nodes xs + nodes (opens b.items)
all_nodes_pushed xs b = let whole = all_nodes-append xs (b ∷ []) in omega (arith, whole)

opens_taken : (branch : List ValuedStep) (i : ℕ) (p : ValuedStep) → i < length branch → get_or branch i p ≡ p
    → opens (take (i + 1) branch) ≡ opens (take i branch) + open_of (step_of p.step) p.value
opens_taken branch i p lt at = ap opens (take_one branch i p lt at) ∙ opens_pushed (take i branch) p

open_step : (p : ValuedStep) → IsOpenStep p → open_of (step_of p.step) p.value ≡ 1
open_step p is = ap (λ s. open_of s p.value) is.step ∙ ap (λ v. open_of (Push is.leaf) v) is.value

-- one step more: no more leaves are without a value, and fewer once the leaf at the position has one
pub narrowed_most : (branch made : List ValuedStep) (i : ℕ) (p y : ValuedStep) → i < length branch → get_or branch i p ≡ p
    → opens made ≤ opens (take i branch) → open_of (step_of y.step) y.value ≤ open_of (step_of p.step) p.value
    → opens (made ++ y ∷ []) ≤ opens (take (i + 1) branch)
narrowed_most branch made i p y lt at most fewer =
    let own = opens_pushed made y in
    let all = opens_taken branch i p lt at in
    omega (arith, own, all, most, fewer)

pub narrowed_fewer : (branch made : List ValuedStep) (i at : ℕ) (p y : ValuedStep) → i < length branch → get_or branch i p ≡ p
    → opens made ≤ opens (take i branch) → (at < i → IsOpenAt branch at → opens made < opens (take i branch))
    → open_of (step_of y.step) y.value ≤ open_of (step_of p.step) p.value → (i ≡ at → open_of (step_of y.step) y.value ≡ 0)
    → at < i + 1 → IsOpenAt branch at → opens (made ++ y ∷ []) < opens (take (i + 1) branch)
narrowed_fewer branch made i at p y lt is most before fewer here within open' =
    let own = opens_pushed made y in
    let all = opens_taken branch i p lt is in
    ⊎_elim (λ (earlier : at < i). let less = before earlier open' in let r : opens (made ++ y ∷ []) < opens (take (i + 1) branch) = omega (arith, own, all, less, fewer) in r)
    (λ (later : i ≤ at).
    let same : i ≡ at = omega (arith, later, within) in
    let none = here same in
    let one = open_step p (open'.1 p (subst (λ k. get_or branch k p ≡ p) same is)) in
    let r : opens (made ++ y ∷ []) < opens (take (i + 1) branch) = omega (arith, own, all, most, none, one) in r) (cases_lt at i)

-- the search begins with one branch
pub start_size : (steps : List (Step CompiledLeaf)) (first : Vec ValuedStep Global) (old new : List (Vec ValuedStep Global))
    → steps_in first.items ≡ steps → old ≡ [] → new ≡ old ++ first ∷ [] → all_nodes new ≤ nodes (length (pushed steps))
start_size steps first old new s o n =
    let alone : all_nodes new ≡ 0 + nodes (opens first.items) = ap all_nodes n ∙ all_nodes_pushed old first ∙ ap (λ xs. all_nodes xs + nodes (opens first.items)) o in
    let few : opens first.items ≤ length (pushed steps) = subst (λ z. opens first.items ≤ length (pushed z)) s (opens_pushed_leaves first.items) in
    let grown = nodes_grow (opens first.items) (length (pushed steps)) few in
    omega (arith, alone, grown)

-- one branch less is left to look at
pub kept_size : (at limit : ℕ) (old mid new : List (Vec ValuedStep Global)) (branch : Vec ValuedStep Global) → old ≡ mid ++ branch ∷ []
    → all_nodes new + 1 ≤ all_nodes mid + nodes (opens branch.items) → at + all_nodes old ≤ limit → at + 1 + all_nodes new ≤ limit
kept_size at limit old mid new branch e fewer size =
    let whole : all_nodes old ≡ all_nodes mid + nodes (opens branch.items) = ap all_nodes e ∙ all_nodes_pushed mid branch in
    omega (arith, whole, fewer, size)

-- after so many branches there are more than there can be
pub stopped_before : (branches at n : ℕ) (pending : List (Vec ValuedStep Global)) → branches ≤ at → at + all_nodes pending ≤ nodes n → branches < 2 ^ (n + 1)
stopped_before branches at n pending le size = let power = nodes_power n in omega (arith, le, size, power)

-- a branch that is divided, in place of its parts
pub divided_size : (old mid new : List (Vec ValuedStep Global)) (without within : Vec ValuedStep Global) (n : ℕ) → mid ≡ old ++ without ∷ [] → new ≡ mid ++ within ∷ []
    → opens without.items < n → opens within.items < n → all_nodes new + 1 ≤ all_nodes old + nodes n
divided_size old mid new without within n m e a b =
    let first : all_nodes mid ≡ all_nodes old + nodes (opens without.items) = ap all_nodes m ∙ all_nodes_pushed old without in
    let second : all_nodes new ≡ all_nodes mid + nodes (opens within.items) = ap all_nodes e ∙ all_nodes_pushed mid within in
    let few = divided_nodes (opens without.items) (opens within.items) n a b in
    omega (arith, first, second, few)

-- ---- formulas run

-- the steps of a formula push one value
abbrev pub RunsOn : List ValuedStep → List (Step CompiledLeaf) → List (Option Bool) → Type 0
RunsOn branch rest stack =
    (v : Option Bool) × (left : List ValuedStep) × (steps_in left ≡ rest) × (kleene_run branch stack ≡ kleene_run left (v ∷ stack))

same_head : {A : Type 0} (x y : A) (xs ys : List A) → x ∷ xs ≡ y ∷ ys → x ≡ y
same_head x y xs ys e = cc

same_tail : {A : Type 0} (x y : A) (xs ys : List A) → x ∷ xs ≡ y ∷ ys → xs ≡ ys
same_tail x y xs ys e = cc

run_one : (p : ValuedStep) (left : List ValuedStep) (stack next : List (Option Bool)) → kleene_step (step_of p.step) p.value stack ≡ Some next
    → kleene_run (p ∷ left) stack ≡ kleene_run left next
run_one p left stack next e = ap (λ o. on_stack (λ s. kleene_run left s) o) e

run_leaf : (leaf : CompiledLeaf) (branch : List ValuedStep) (rest : List (Step CompiledLeaf)) (stack : List (Option Bool)) → steps_in branch ≡ Push leaf ∷ rest → RunsOn branch rest stack
run_leaf leaf [] rest stack e = absurd (let clash : [] ≡ Push leaf ∷ rest = e in cc)
run_leaf leaf (p ∷ branch) rest stack e = (
  p.value,
  branch,
  same_tail (step_of p.step) (Push leaf) (steps_in branch) rest e,
  run_one p branch stack (p.value ∷ stack) (ap (λ s. kleene_step s p.value stack) (same_head (step_of p.step) (Push leaf) (steps_in branch) rest e)),
)

run_negation : (x : Option Bool) (branch : List ValuedStep) (rest : List (Step CompiledLeaf)) (stack : List (Option Bool)) → steps_in branch ≡ Negate ∷ rest
    → (left : List ValuedStep) × (steps_in left ≡ rest) × (kleene_run branch (x ∷ stack) ≡ kleene_run left (kleene_not x ∷ stack))
run_negation x [] rest stack e = absurd (let clash : [] ≡ Negate ∷ rest = e in cc)
run_negation x (p ∷ branch) rest stack e = (
  branch,
  same_tail (step_of p.step) Negate (steps_in branch) rest e,
  run_one p branch (x ∷ stack) (kleene_not x ∷ stack) (ap (λ s. kleene_step s p.value (x ∷ stack)) (same_head (step_of p.step) Negate (steps_in branch) rest e)),
)

run_compound : (c : Connective) (x y : Option Bool) (branch : List ValuedStep) (rest : List (Step CompiledLeaf)) (stack : List (Option Bool)) → steps_in branch ≡ Combine c ∷ rest
    → (left : List ValuedStep) × (steps_in left ≡ rest) × (kleene_run branch (y ∷ x ∷ stack) ≡ kleene_run left (kleene c x y ∷ stack))
run_compound c x y [] rest stack e = absurd (let clash : [] ≡ Combine c ∷ rest = e in cc)
run_compound c x y (p ∷ branch) rest stack e = (
  branch,
  same_tail (step_of p.step) (Combine c) (steps_in branch) rest e,
  run_one p branch (y ∷ x ∷ stack) (kleene c x y ∷ stack) (ap (λ s. kleene_step s p.value (y ∷ x ∷ stack)) (same_head (step_of p.step) (Combine c) (steps_in branch) rest e)),
)

run_formula : (f : Formula CompiledLeaf) (branch : List ValuedStep) (rest : List (Step CompiledLeaf)) (stack : List (Option Bool)) → steps_in branch ≡ postfix f ++ rest → RunsOn branch rest stack
run_formula (Leaf leaf) branch rest stack e = run_leaf leaf branch rest stack e
run_formula (Negation f) branch rest stack e =
    let inner = run_formula f branch (Negate ∷ rest) stack (e ∙ append_assoc (postfix f) (Negate ∷ []) rest) in
    let last = run_negation inner.0 inner.1 rest stack inner.2 in
    (kleene_not inner.0, last.0, last.1, inner.3 ∙ last.2)
run_formula (Compound c f g) branch rest stack e =
    let whole : steps_in branch ≡ postfix f ++ (postfix g ++ Combine c ∷ rest) =
    e ∙ append_assoc (postfix f) (postfix g ++ Combine c ∷ []) rest ∙ ap (λ z. postfix f ++ z) (append_assoc (postfix g) (Combine c ∷ []) rest) in
    let first = run_formula f branch (postfix g ++ Combine c ∷ rest) stack whole in
    let second = run_formula g first.1 (Combine c ∷ rest) (first.0 ∷ stack) first.2 in
    let last = run_compound c first.0 second.0 second.1 rest stack second.2 in
    (kleene c first.0 second.0, last.0, last.1, first.3 ∙ second.3 ∙ last.2)

run_all : (formulas : List (Formula CompiledLeaf)) (branch : List ValuedStep) (stack : List (Option Bool)) → steps_in branch ≡ all_steps formulas
    → (out : List (Option Bool)) × (kleene_run branch stack ≡ Some out)
run_all [] [] stack e = (stack, refl)
run_all [] (p ∷ branch) stack e = absurd (let clash : step_of p.step ∷ steps_in branch ≡ [] = e in cc)
run_all (f ∷ formulas) branch stack e =
    let one = run_formula f branch (all_steps formulas) stack (e ∙ flat_map-cons postfix f formulas) in
    let others = run_all formulas one.1 (one.0 ∷ stack) one.2 in
    (others.0, one.3 ∙ others.1)

-- the steps of formulas find their operands
pub formulas_run : (formulas : List (Formula CompiledLeaf)) (branch : List ValuedStep) → steps_in branch ≡ all_steps formulas → ¬ (kleene_run branch [] ≡ None)
formulas_run formulas branch e none =
    let run = run_all formulas branch [] e in
    no_run run.0 (sym none ∙ run.1)
  where
    no_run : (out : List (Option Bool)) → None ≡ Some out → ⊥
    no_run out e = cc

-- ---- steps

postfix_some : (f : Formula CompiledLeaf) → 0 < length (postfix f)
postfix_some (Leaf leaf) = omega arith
postfix_some (Negation f) = omega (arith, length-append (postfix f) (Negate ∷ []))
postfix_some (Compound connective f g) =
    omega (arith, postfix_some f, length-append (postfix f) (postfix g ++ Combine connective ∷ []))

-- filtersets have steps
pub steps_some : (f : Formula CompiledLeaf) (formulas : List (Formula CompiledLeaf)) → 0 < length (all_steps (f ∷ formulas))
steps_some f formulas =
    omega (arith, postfix_some f, ap length (flat_map-cons postfix f formulas), length-append (postfix f) (all_steps formulas))
