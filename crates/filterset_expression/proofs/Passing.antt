-- What is passed over, in lists of steps.
use Rattle.std.proofs.Common.{◌≡◌, ◌+◌, ◌-◌, ◌<◌, ◌≤◌, get_or, ◌&&◌, ℕ, zero, suc, true, false, take, ap, sym, ◌∙◌, subst, refl, arith, List, [], ◌∷◌, ◌++◌, length, drop, reverse, append_assoc, length-append, length-take, length-drop, Option, Some, None, inl, inr}
use Rattle.std.specs.Prelude.{IfSome}
use Rattle.std.proofs.lemmas.List.{append-nil, reverse-append, length-reverse, take-append-drop}
use Rattle.std.proofs.Math.Seq.{take-append_seam, drop-append_seam}
use Rattle.std.proofs.lemmas.Bool.{and_from, and_parts}
use Rattle.filterset_expression.proofs.FlatSteps.{postfix_runs}
use Rattle.filterset_expression.specs.{Connectives.Connective, EqualityLaws.connective_is, EqualityLaws.connective_self}
use Rattle.filterset_expression.specs.Expression.{CompiledLeaf, leaf_with_default}
use Rattle.filterset_expression.specs.FlatSteps.{Step, Push, Negate, Combine, postfix}
use Rattle.filterset_expression.specs.Formula.{Formula, Leaf, Negation, Compound, replaced}
use Rattle.filterset_expression.specs.Passing.{Advances, IsRightOperand, IsPassedOver, ArePassedOver, begins_with, is_right_operand, is_passed_over, are_passed_over}
use Rattle.filterset_expression.specs.{Running.leaves_one, declared.flat.passing.RightOperand.RightOperand}
use Rattle.filterset_expression.specs.Expression as compiled
use Rattle.filterset_expression.specs.declared.expression.CompiledExpr.TheBlock as variant
use Rattle.filterset_expression.specs.declared.leaves.FiltersetLeaf.TheVariants as leaf

-- steps may follow those that a right operand is among
pub passed_more : {A : Type 0} (operand : Option RightOperand) (steps rest : List (Step A)) → IsPassedOver operand steps → IsPassedOver operand (steps ++ rest)
passed_more None steps rest h = tt
passed_more (Some operand) steps rest h =
    (h.0, h.1 ++ rest, rw h.2 (append_assoc (postfix h.0) (Combine operand.connective ∷ h.1) rest), h.3)

-- Before other steps, with the last operand replaced by one that they begin with.
pub spliced : {A : Type 0} (steps rest : List (Step A)) (operands others : List (Option RightOperand)) (old last : Option RightOperand) → length steps ≡ length (operands ++ old ∷ []) → ArePassedOver steps (operands ++ old ∷ []) → IsPassedOver last rest → ArePassedOver rest others → ArePassedOver (steps ++ rest) (operands ++ last ∷ others)
spliced [] rest [] others old last e h l r = absurd h
spliced (s ∷ []) rest [] others old last e h l r = (l, r)
spliced (s ∷ t ∷ steps) rest [] others old last e h l r = absurd (omega (arith, e))
spliced [] rest (operand ∷ operands) others old last e h l r = absurd h
spliced (s ∷ steps) rest (operand ∷ operands) others old last e h l r =
    (passed_more operand steps rest h.0, spliced steps rest operands others old last (omega (arith, e)) h.1 l r)

-- the right operand that is passed over, if one is, is the one that the steps begin with
pub right_passed : {A : Type 0} (passed : Option RightOperand) (c : Connective) (count : ℕ) (g : Formula A) (rest : List (Step A)) → IfSome passed (λ operand. (operand.connective ≡ c) × (operand.steps ≡ count)) → count ≡ length (postfix g) + 1 → IsPassedOver passed (postfix g ++ Combine c ∷ rest)
right_passed None c count g rest h e = tt
right_passed (Some operand) c count g rest h e =
    (g, rest, ap (λ k. postfix g ++ Combine k ∷ rest) (sym h.0), h.1 ∙ e)

-- the steps of the operand, and then the negation's
pub of_negation : {A : Type 0} (f : Formula A) (rest : List (Step A)) (operands : List (Option RightOperand)) → ArePassedOver (postfix f ++ Negate ∷ rest) operands → ArePassedOver (postfix (Negation f) ++ rest) operands
of_negation f rest operands h = rw append_assoc h

-- the steps of both operands, and then the connective's
pub of_compound : {A : Type 0} (c : Connective) (f g : Formula A) (rest : List (Step A)) (operands : List (Option RightOperand)) → ArePassedOver (postfix f ++ (postfix g ++ Combine c ∷ rest)) operands → ArePassedOver (postfix (Compound c f g) ++ rest) operands
of_compound c f g rest operands h = rw append_assoc (rw append_assoc h)

-- what is pushed comes first when the list is reversed
pub pushed : (rest : List (Step CompiledLeaf)) (s : Step CompiledLeaf) (old new : List (Option RightOperand)) (last : Option RightOperand) → new ≡ old ++ last ∷ [] → IsPassedOver last rest → ArePassedOver rest (reverse old) → ArePassedOver (s ∷ rest) (reverse new)
pushed rest s old new last e l h = rw (e, reverse-append old (last ∷ [])) (l, h)

-- a formula has steps
pub some_steps : {A : Type 0} (f : Formula A) → length (postfix f) ≡ 0 → ⊥
some_steps (Leaf leaf) e = absurd (let clash : 1 ≡ 0 = e in omega (arith, clash))
some_steps (Negation f) e = absurd (omega (arith, e, length-append (postfix f) (Negate ∷ [])))
some_steps (Compound c f g) e =
    absurd (omega (arith, e, length-append (postfix f) (postfix g ++ Combine c ∷ []), length-append (postfix g) (Combine c ∷ [])))

-- the default filter's operands, of which the first is the last step's, come in the place of a `default` leaf
pub default_spliced : (steps rest : List (Step CompiledLeaf)) (given others old new : List (Option RightOperand)) (first last : Option RightOperand) → given ≡ first ∷ others → length steps ≡ length given → ArePassedOver steps (reverse given) → IsPassedOver last rest → ArePassedOver rest (reverse old) → new ≡ (old ++ last ∷ []) ++ others → ArePassedOver (steps ++ rest) (reverse new)
default_spliced steps rest given others old new first last g e d l r n =
    let turned : reverse given ≡ reverse others ++ first ∷ [] = rw g (reverse-append (first ∷ []) others) in
    let whole : reverse new ≡ reverse others ++ last ∷ reverse old = rw (n, reverse-append (old ++ last ∷ []) others, reverse-append old (last ∷ [])) refl in
    rw whole (spliced steps rest (reverse others) (reverse old) first last (e ∙ sym (length-reverse given) ∙ ap length turned) (rw turned at d) l r)

-- a `default` leaf may stand for itself
pub own_default : (f : Formula CompiledLeaf) → replaced (leaf_with_default (variant.Set leaf.Default)) f ≡ f
own_default (Leaf compiled.Default) = refl
own_default (Leaf _) = refl
own_default (Negation f) = ap Negation (own_default f)
own_default (Compound c f g) = let left = own_default f in let right = own_default g in cc

-- ---- as truth values

is_of_right : {A : Type 0} (c : Connective) (count : ℕ) (steps : List (Step A)) → IsRightOperand c count steps → is_right_operand c count steps ≡ true
is_of_right c count steps h =
    let n : count - 1 ≡ length (postfix h.0) = omega (arith, h.3) in
    rw (n, h.2, take-append_seam (postfix h.0) (Combine c ∷ h.1), drop-append_seam (postfix h.0) (Combine c ∷ h.1)) (and_from _ _ (postfix_runs h.0) (connective_self c))

is_passed : {A : Type 0} (operand : Option RightOperand) (steps : List (Step A)) → IsPassedOver operand steps → is_passed_over operand steps ≡ true
is_passed None steps h = refl
is_passed (Some operand) steps h = is_of_right operand.connective operand.steps steps h

pub are_passed : {A : Type 0} (steps : List (Step A)) (operands : List (Option RightOperand)) → ArePassedOver steps operands → are_passed_over steps operands ≡ true
are_passed steps [] h = refl
are_passed [] (operand ∷ operands) h = absurd h
are_passed (s ∷ steps) (operand ∷ operands) h =
    and_from _ _ (is_passed operand steps h.0) (are_passed steps operands h.1)

-- the steps of formulas, of which the last comes first
abbrev all_steps : {A : Type 0} → List (Formula A) → List (Step A)
all_steps [] = []
all_steps (f ∷ formulas) = all_steps formulas ++ postfix f

-- steps that find their operands and leave one value are a formula's
read_back : {A : Type 0} (steps : List (Step A)) (formulas : List (Formula A)) → leaves_one steps (length formulas) ≡ true → (f : Formula A) × (all_steps formulas ++ steps ≡ postfix f)
read_back [] [] e = absurd (let clash : false ≡ true = e in cc)
read_back [] (f ∷ []) e = (f, append-nil (postfix f))
read_back [] (f ∷ g ∷ formulas) e = absurd (let clash : false ≡ true = e in cc)
read_back (Push leaf ∷ steps) formulas e =
    let rest = read_back steps (Leaf leaf ∷ formulas) e in
    (rest.0, sym (append_assoc (all_steps formulas) (Push leaf ∷ []) steps) ∙ rest.1)
read_back (Negate ∷ steps) [] e = absurd (let clash : false ≡ true = e in cc)
read_back (Negate ∷ steps) (f ∷ formulas) e =
    let rest = read_back steps (Negation f ∷ formulas) e in
    let same : (all_steps formulas ++ postfix f) ++ Negate ∷ steps ≡ (all_steps formulas ++ (postfix f ++ Negate ∷ [])) ++ steps =
    append_assoc (all_steps formulas) (postfix f) (Negate ∷ steps) ∙ ap (λ s. all_steps formulas ++ s) (sym (append_assoc (postfix f) (Negate ∷ []) steps)) ∙ sym (append_assoc (all_steps formulas) (postfix f ++ Negate ∷ []) steps) in
    (rest.0, same ∙ rest.1)
read_back (Combine c ∷ steps) [] e = absurd (let clash : false ≡ true = e in cc)
read_back (Combine c ∷ steps) (g ∷ []) e = absurd (let clash : false ≡ true = e in cc)
read_back (Combine c ∷ steps) (g ∷ f ∷ formulas) e =
    let rest = read_back steps (Compound c f g ∷ formulas) e in
    let inner : (postfix f ++ postfix g) ++ Combine c ∷ steps ≡ (postfix f ++ (postfix g ++ Combine c ∷ [])) ++ steps =
    rw append_assoc (rw append_assoc (rw append_assoc refl)) in
    let same : ((all_steps formulas ++ postfix f) ++ postfix g) ++ Combine c ∷ steps ≡ (all_steps formulas ++ (postfix f ++ (postfix g ++ Combine c ∷ []))) ++ steps =
    ap (λ s. s ++ Combine c ∷ steps) (append_assoc (all_steps formulas) (postfix f) (postfix g)) ∙ append_assoc (all_steps formulas) (postfix f ++ postfix g) (Combine c ∷ steps) ∙ ap (λ s. all_steps formulas ++ s) inner ∙ sym (append_assoc (all_steps formulas) (postfix f ++ (postfix g ++ Combine c ∷ [])) steps) in
    (rest.0, same ∙ rest.1)

begins : {A : Type 0} (c : Connective) (steps : List (Step A)) → begins_with c steps ≡ true → (rest : List (Step A)) × (steps ≡ Combine c ∷ rest)
begins c [] e = absurd (let clash : false ≡ true = e in cc)
begins c (Push leaf ∷ steps) e = absurd (let clash : false ≡ true = e in cc)
begins c (Negate ∷ steps) e = absurd (let clash : false ≡ true = e in cc)
begins c (Combine d ∷ steps) e = (steps, ap (λ k. Combine k ∷ steps) (sym (connective_is c d e)))

-- a right operand is told by its truth value
right_of_is : {A : Type 0} (c : Connective) (count : ℕ) (steps : List (Step A)) → is_right_operand c count steps ≡ true → IsRightOperand c count steps
right_of_is c zero steps e = absurd (let clash : false ≡ true = e in cc)
right_of_is {A} c (suc n) steps e =
    let less : suc n - 1 ≡ n = omega arith in
    let both : (leaves_one (take n steps) 0 && begins_with c (drop n steps)) ≡ true = subst (λ k. (leaves_one (take k steps) 0 && begins_with c (drop k steps)) ≡ true) less e in
    let own : (f : Formula A) × (take n steps ≡ postfix f) = read_back (take n steps) [] (and_parts _ _ both).0 in
    let last = begins c (drop n steps) (and_parts (leaves_one (take n steps) 0) _ both).1 in
    let whole : steps ≡ postfix own.0 ++ Combine c ∷ last.0 = sym (take-append-drop n steps) ∙ ap (λ s. s ++ drop n steps) own.1 ∙ ap (λ s. postfix own.0 ++ s) last.1 in
    let counted : length (take n steps) ≡ n = omega (arith, length-take n steps, length-drop n steps, ap length last.1) in
    (own.0, last.0, whole, omega (arith, counted, ap length own.1))

-- what is passed over after a step
pub passed_at : {A : Type 0} (steps : List (Step A)) (operands : List (Option RightOperand)) (at : ℕ) (found other : Option RightOperand) → are_passed_over steps operands ≡ true → at < length operands → found ≡ get_or operands at other → IsPassedOver found (drop (suc at) steps)
passed_at steps [] at found other e within is = absurd (omega (arith, within))
passed_at [] (operand ∷ operands) at found other e within is = absurd (let clash : false ≡ true = e in cc)
passed_at (s ∷ steps) (None ∷ operands) zero found other e within is = rw is tt
passed_at (s ∷ steps) (Some operand ∷ operands) zero found other e within is =
    rw is (right_of_is operand.connective operand.steps steps (and_parts _ _ e).0)
passed_at (s ∷ steps) (operand ∷ operands) (suc n) found other e within is =
    passed_at steps operands n found other (and_parts _ _ e).1 (omega (arith, within)) is

-- a right operand is within the steps
pub right_within : {A : Type 0} (connective : Connective) (count at : ℕ) (steps : List (Step A)) → IsRightOperand connective count (drop (suc at) steps) → count + (at + 1) ≤ length steps
right_within connective count at steps h =
    omega (arith, h.3, length-drop (suc at) steps, ap length h.2, length-append (postfix h.0) (Combine connective ∷ h.1))

-- a run stays within the steps
pub advance_within : {A L : Type 0} (decides : Connective → L → Type 0) (all : List (Step A)) (at count : ℕ) (value : L) → at < length all → Advances decides (drop (at + 1) all) value count → at + count ≤ length all
advance_within decides all at count value within (inl one) = omega (arith, within, one)
advance_within {A} decides all at count value within (inr far) =
    let next : at + 1 ≡ suc at = omega arith in
    let right : IsRightOperand far.0 far.1 (drop (suc at) all) = subst (λ n. IsRightOperand far.0 far.1 (drop n all)) next far.3 in
    omega (arith, far.4, right_within far.0 far.1 at all right)

pub advances_some : {A L : Type 0} (decides : Connective → L → Type 0) (left : List (Step A)) (value : L) (count : ℕ) → Advances decides left value count → 1 ≤ count
advances_some decides left value count (inl one) = omega (arith, one)
advances_some decides left value count (inr far) = omega (arith, far.4)
