-- The first element of a list that passes a test.
use Rattle.std.proofs.Common.{◌≡◌, ℕ, ◌+◌, ◌<◌, ◌≤◌, Bool, true, false, cond, List, [], ◌∷◌, length, get_or, drop, Option, Some, None, refl, ap, sym, ◌∙◌}
use Rattle.std.specs.Prelude.{find}
use Rattle.std.proofs.lemmas.List.{at_drop_all, at_drop_more}

module _ {X : Type 0} (test : X → Bool) where
  found_or_later : (y x : X) (o : Option X) (b : Bool) → test y ≡ b → (o ≡ Some x → test x ≡ true) → cond b (Some y) o ≡ Some x → test x ≡ true
  found_or_later y x o true e later h =
      let same : y ≡ x = cc in
      ap test (sym same) ∙ e
  found_or_later y x o false e later h = later h

  -- what is found passes the test
  pub find_passes : (xs : List X) (x : X) → find test xs ≡ Some x → test x ≡ true
  find_passes [] x h = cc
  find_passes (y ∷ xs) x h = found_or_later y x (find test xs) (test y) refl (find_passes xs x) h

  -- it is the element at a position, or it is behind that, or there is none
  pub find_here : (xs : List X) (i : ℕ) (x : X) → i < length xs → x ≡ get_or xs i x → test x ≡ true → find test (drop i xs) ≡ Some x
  find_here xs i x lt is e =
      at_drop_more (find test) xs i x lt ∙ ap (λ y. cond (test y) (Some y) (find test (drop (i + 1) xs))) (sym is)
      ∙ ap (λ b. cond b (Some x) (find test (drop (i + 1) xs))) e

  pub find_later : (xs : List X) (i : ℕ) (x : X) → i < length xs → x ≡ get_or xs i x → test x ≡ false → find test (drop i xs) ≡ find test (drop (i + 1) xs)
  find_later xs i x lt is e =
      at_drop_more (find test) xs i x lt ∙ ap (λ y. cond (test y) (Some y) (find test (drop (i + 1) xs))) (sym is)
      ∙ ap (λ b. cond b (Some x) (find test (drop (i + 1) xs))) e

  pub find_none : (xs : List X) (i : ℕ) → length xs ≤ i → find test (drop i xs) ≡ None
  find_none xs i le = at_drop_all (find test) xs i le
