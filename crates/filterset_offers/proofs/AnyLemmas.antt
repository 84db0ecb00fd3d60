-- Whether lists have elements for which a fact holds.
use Rattle.std.proofs.Common.{◌≡◌, ◌<◌, ◌≤◌, ◌↔◌, ⊎_elim, ℕ, true, false, List, ◌∷◌, arith, get_or, length, refl, subst, sym, take}
use Rattle.std.specs.Prelude.{All, Any, Contains, IsTrue}
use Rattle.std.proofs.lemmas.{Bool.false≢true, List.take_all, List.Elements.All-contains}
use Rattle.nextest_filtering.proofs.Members.{first, first_or_later, later, none_in}
use Rattle.filterset_offers.specs.Sieves.{Selects, Sieves.left, Sieves.no_more, Sieves.taken}

module _ {A : Type 0} (P : A → Type 0) where
  pub any_of : (xs : List A) (x : A) → Contains xs x → P x → Any P xs
  any_of xs x has is = (has.0, x, has.1, has.2, is)

  -- an element was found
  pub found : (xs : List A) (i : ℕ) (x : A) → i < length xs → get_or xs i x ≡ x → P x → IsTrue true ↔ Any P xs
  found xs i x lt at is = ((λ yes. (i, x, lt, at, is)), (λ some. refl))

  -- none was found up to the end
  pub not_found : (xs : List A) (i : ℕ) → length xs ≤ i → All (λ x. ¬ P x) (take i xs) → IsTrue false ↔ Any P xs
  not_found xs i end missed =
      let all : All (λ x. ¬ P x) xs = rw (take_all i xs end) at missed in
      ((λ yes. absurd (false≢true yes)), (λ some. absurd (All-contains (λ x. ¬ P x) xs some.1 all (some.0, some.2, some.3) some.4)))

  -- what is selected of a list has an element if the list has one for which the fact holds
  selected : (xs ys : List A) (x : A) → Selects P xs ys → Contains xs x → P x → 0 < length ys
  selected xs ys x no_more has is = absurd (none_in x has)
  selected xs ys x (taken {x = y} {xs = zs} {ys = ws} here are) has is = omega arith
  selected xs ys x (left {x = y} {xs = zs} {ys = ws} not are) has is =
      ⊎_elim (λ same. absurd (not (subst P (sym same) is))) (λ rest. selected zs ws x are rest is) (first_or_later y zs x has)

  -- and only then
  selects : (xs ys : List A) → Selects P xs ys → 0 < length ys → Any P xs
  selects xs ys no_more some = absurd (omega (arith, some))
  selects xs ys (taken {x = y} {xs = zs} {ys = ws} here are) some = any_of (y ∷ zs) y (first y zs) here
  selects xs ys (left {x = y} {xs = zs} {ys = ws} not are) some =
      let any = selects zs ws are some in
      any_of (y ∷ zs) any.1 (later y zs any.1 (any.0, any.2, any.3)) any.4

  pub selects_some : (xs ys : List A) → Selects P xs ys → Any P xs ↔ 0 < length ys
  selects_some xs ys are =
      ((λ any. selected xs ys any.1 are (any.0, any.2, any.3) any.4), (λ some. selects xs ys are some))
