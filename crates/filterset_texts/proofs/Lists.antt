-- Some element of a list, and no element of it.
use Rattle.std.proofs.Common.{◌≡◌, ◌↔◌, IsTrue, refl, sym, ℕ, ◌<◌, ◌≤◌, refl, sym, ◌∙◌, subst, List, ◌++◌, length, get_or, take, arith, Bool, true, false}
use Rattle.std.specs.List.{All, Any}
use Rattle.std.proofs.lemmas.List.{get_or_append_left, length-append, take_all}

pub any_at : {X : Type 0} (P : X → Type 0) (xs : List X) (i : ℕ) (x : X) → i < length xs → x ≡ get_or xs i x → P x → Any P xs
any_at P xs i x short is p = (i, x, short, sym is, p)

pub any_left : {X : Type 0} (P : X → Type 0) (xs ys : List X) → Any P xs → Any P (xs ++ ys)
any_left P xs ys (k, x, short, is, p) =
    (k, x, (let l : k < length (xs ++ ys) = omega (arith, length-append xs ys, short) in l), get_or_append_left xs ys x k short ∙ is, p)

pub any_weaker : {X : Type 0} (P Q : X → Type 0) (xs : List X) → ((x : X) → P x → Q x) → Any P xs → Any Q xs
any_weaker P Q xs f (k, x, short, is, p) = (k, x, short, is, f x p)

pub none_of : {X : Type 0} (P : X → Type 0) (xs : List X) (n : ℕ) → length xs ≤ n → All (λ x. P x → ⊥) (take n xs) → Any P xs → ⊥
none_of P xs n long all (k, x, short, is, p) =
    let whole : All (λ x. P x → ⊥) xs = subst (All (λ x. P x → ⊥)) (take_all n xs long) all in
    whole k x short (subst P (sym is) p)

-- two tests of one fact
pub same_bool : (b d : Bool) (P : Type 0) → IsTrue b ↔ P → IsTrue d ↔ P → b ≡ d
same_bool true true P first second = refl
same_bool false false P first second = refl
same_bool true false P first second = sym (second.1 (first.0 refl))
same_bool false true P first second = first.1 (second.0 refl)
