-- Demands of leaves, and the leaves of the filtersets.
use Rattle.std.proofs.Common.{◌≡◌, ◌∙◌, ◌<◌, ℕ, zero, suc, refl, sym, ap, subst, List, [], ◌∷◌, ◌++◌, map, length, get_or, ⊎_elim, arith}
use Rattle.std.specs.{Prelude.Contains, List.AllByRecursion, List.flat_map}
use Rattle.std.proofs.lemmas.List.{append-nil, Concat.flat_map-cons}
use Rattle.filterset_expression.specs.Expression.{CompiledLeaf}
use Rattle.filterset_expression.specs.FlatSteps.{Step, Push, Negate, Combine, postfix, step_of}
use Rattle.filterset_expression.specs.Formula.{Formula, Leaf, Negation, Compound, leaves}
use Rattle.filterset_deciding.specs.Candidates.{HasOpen}
use Rattle.filterset_deciding.specs.Demands.{HasUncompared, IsDemandedBy, IsDoubtAbout, IsDoubtIn, IsOfLeaf}
use Rattle.filterset_deciding.specs.{Known.steps_in, Searching.all_steps, Searching.pushed}
use Rattle.filterset_deciding.specs.declared.demand.{Demand.Demand, Doubt.Doubt, TestField.TestField}
use Rattle.filterset_deciding.specs.declared.running.ValuedStep.{ValuedStep}
use Rattle.filterset_deciding.proofs.Rules.{contains_cases, contains_none}

pub contains_first : {A : Type 0} (x : A) (xs : List A) → Contains (x ∷ xs) x
contains_first x xs = (zero, omega arith, refl)

pub contains_later : {A : Type 0} (x y : A) (xs : List A) → Contains xs x → Contains (y ∷ xs) x
contains_later x y xs h = (suc h.0, omega (arith, h.1), h.2)

pub contains_at : {A : Type 0} (xs : List A) (i : ℕ) (x : A) → i < length xs → get_or xs i x ≡ x → Contains xs x
contains_at xs i x lt at = (i, lt, at)

pub contains_mapped : {A B : Type 0} (f : A → B) (xs : List A) (x : A) → Contains xs x → Contains (map f xs) (f x)
contains_mapped f [] x h = absurd (contains_none x h)
contains_mapped f (y ∷ ys) x h =
    ⊎_elim (λ same. subst (λ z. Contains (f y ∷ map f ys) (f z)) same (contains_first (f y) (map f ys)))
    (λ later. contains_later (f x) (f y) (map f ys) (contains_mapped f ys x later)) (contains_cases x y ys h)

-- what is so of all is so of each
pub of_each : {A : Type 0} (P : A → Type 0) (xs : List A) (x : A) → AllByRecursion P xs → Contains xs x → P x
of_each P [] x all h = absurd (contains_none x h)
of_each P (y ∷ ys) x all h = ⊎_elim (λ same. subst P same all.0) (λ later. of_each P ys x all.1 later) (contains_cases x y ys h)

pub each_weaker : {A : Type 0} (P Q : A → Type 0) (xs : List A) → ((x : A) → P x → Q x) → AllByRecursion P xs → AllByRecursion Q xs
each_weaker P Q [] f all = tt
each_weaker P Q (x ∷ xs) f all = (f x all.0, each_weaker P Q xs f all.1)

pushed-append : (xs ys : List (Step CompiledLeaf)) → pushed (xs ++ ys) ≡ pushed xs ++ pushed ys
pushed-append [] ys = refl
pushed-append (Push leaf ∷ xs) ys = ap (λ z. leaf ∷ z) (pushed-append xs ys)
pushed-append (Negate ∷ xs) ys = pushed-append xs ys
pushed-append (Combine connective ∷ xs) ys = pushed-append xs ys

pushed-postfix : (f : Formula CompiledLeaf) → pushed (postfix f) ≡ leaves f
pushed-postfix (Leaf leaf) = refl
pushed-postfix (Negation f) = pushed-append (postfix f) (Negate ∷ []) ∙ append-nil (pushed (postfix f)) ∙ pushed-postfix f
pushed-postfix (Compound connective f g) =
    let right : pushed (postfix g ++ Combine connective ∷ []) ≡ leaves g =
    pushed-append (postfix g) (Combine connective ∷ []) ∙ append-nil (pushed (postfix g)) ∙ pushed-postfix g in
    pushed-append (postfix f) (postfix g ++ Combine connective ∷ []) ∙ ap (λ z. z ++ pushed (postfix g ++ Combine connective ∷ [])) (pushed-postfix f) ∙ ap (λ z. leaves f ++ z) right

pub pushed-all : (formulas : List (Formula CompiledLeaf)) → pushed (all_steps formulas) ≡ flat_map leaves formulas
pushed-all [] = refl
pushed-all (f ∷ formulas) =
    ap pushed (flat_map-cons postfix f formulas) ∙ pushed-append (postfix f) (all_steps formulas) ∙ ap (λ z. z ++ pushed (all_steps formulas)) (pushed-postfix f)
    ∙ ap (λ z. leaves f ++ z) (pushed-all formulas) ∙ sym (flat_map-cons leaves f formulas)

push_same : (leaf other : CompiledLeaf) → Push leaf ≡ Push other → leaf ≡ other
push_same leaf other e = cc

contains_pushed : (steps : List (Step CompiledLeaf)) (leaf : CompiledLeaf) → Contains steps (Push leaf) → Contains (pushed steps) leaf
contains_pushed [] leaf h = absurd (contains_none (Push leaf) h)
contains_pushed (Push other ∷ steps) leaf h =
    ⊎_elim (λ same. subst (Contains (other ∷ pushed steps)) (push_same other leaf same) (contains_first other (pushed steps)))
    (λ later. contains_later leaf other (pushed steps) (contains_pushed steps leaf later)) (contains_cases (Push leaf) (Push other) steps h)
contains_pushed (Negate ∷ steps) leaf h =
    ⊎_elim (λ same. absurd (let clash : Negate ≡ Push leaf = same in cc)) (λ later. contains_pushed steps leaf later) (contains_cases (Push leaf) Negate steps h)
contains_pushed (Combine connective ∷ steps) leaf h =
    ⊎_elim (λ same. absurd (let clash : Combine connective ≡ Push leaf = same in cc)) (λ later. contains_pushed steps leaf later)
    (contains_cases (Push leaf) (Combine connective) steps h)

-- a leaf of a step of filtersets is one of their leaves
pub contains_leaf : (formulas : List (Formula CompiledLeaf)) (steps : List (Step CompiledLeaf)) (leaf : CompiledLeaf) → steps ≡ all_steps formulas
    → Contains steps (Push leaf) → Contains (flat_map leaves formulas) leaf
contains_leaf formulas steps leaf made h =
    subst (λ ls. Contains ls leaf) (pushed-all formulas) (contains_pushed (all_steps formulas) leaf (subst (λ s. Contains s (Push leaf)) made h))

-- a demand of a step of a branch is of a leaf of the branch
pub demanded : (field : TestField) (branch : List ValuedStep) (i : ℕ) (p : ValuedStep) (demand : Demand) → i < length branch → get_or branch i p ≡ p
    → IsDemandedBy field p demand → (leaf : CompiledLeaf) × Contains (steps_in branch) (Push leaf) × IsOfLeaf field demand leaf
demanded field branch i p demand lt at by = (
  by.leaf,
  subst (Contains (steps_in branch)) by.step (contains_mapped (λ q. step_of q.step) branch p (contains_at branch i p lt at)),
  by.of_leaf,
)

-- what is left of a doubt about the steps of filtersets is about their leaves
pub kept_doubt : (formulas : List (Formula CompiledLeaf)) (steps : List (Step CompiledLeaf)) (doubt kept : Doubt) → steps ≡ all_steps formulas
    → kept.field ≡ doubt.field → AllByRecursion (Contains doubt.demands.items) kept.demands.items
    → IsDoubtIn steps doubt → IsDoubtAbout (flat_map leaves formulas) kept
kept_doubt formulas steps doubt kept made same some is =
    let In : TestField → Demand → Type 0 = λ field demand. (leaf : CompiledLeaf) × Contains steps (Push leaf) × IsOfLeaf field demand leaf in
    each_weaker (Contains doubt.demands.items) (λ demand. (leaf : CompiledLeaf) × Contains (flat_map leaves formulas) leaf × IsOfLeaf kept.field demand leaf) kept.demands.items
    (λ demand has.
    let one = of_each (In doubt.field) doubt.demands.items demand is has in
    (one.0, contains_leaf formulas steps one.0 made one.1, subst (λ f. IsOfLeaf f demand one.0) (sym same) one.2))
    some

each_own : {A : Type 0} (xs : List A) → AllByRecursion (Contains xs) xs
each_own [] = tt
each_own (x ∷ xs) = (contains_first x xs, each_weaker (Contains xs) (Contains (x ∷ xs)) xs (λ y h. contains_later y x xs h) (each_own xs))

-- an open doubt about the steps of filtersets is one about their leaves
pub open_leaves : (formulas : List (Formula CompiledLeaf)) (steps : List (Step CompiledLeaf)) → steps ≡ all_steps formulas
    → HasOpen steps → HasUncompared (flat_map leaves formulas)
open_leaves formulas steps made (doubt, is) = (
  doubt,
  kept_doubt formulas steps doubt doubt made refl (each_own doubt.demands.items) is.about,
  is.not_compared,
)
