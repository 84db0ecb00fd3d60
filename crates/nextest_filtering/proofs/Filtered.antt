-- What a loop over chosen elements gathers.
use Rattle.std.proofs.Common.{◌≡◌, ℕ, suc, ◌+◌, ◌<◌, Bool, true, false, List, [], ◌∷◌, ◌++◌, map, take, length, get_or, refl, ap, sym, ◌∙◌, arith}
use Rattle.std.specs.{Prelude.Option, Prelude.Some, Prelude.None, List.filter, List.filter_map, List.cons_option}
use Rattle.std.proofs.Math.Seq.{take-suc}
use Rattle.std.proofs.lemmas.List.{map-append, append-nil, Elements.filter_map-append}

-- one element more
pub one_more : {X Y Z : Type 0} (h : Y → Option Z) (v : X → Y) (xs : List X) (k : ℕ) (d : X) → k < length xs
    → filter_map h (map v (take (k + 1) xs)) ≡ filter_map h (map v (take k xs)) ++ filter_map h (v (get_or xs k d) ∷ [])
one_more {X} h v xs k d lt =
    let next : k + 1 ≡ suc k = omega arith in
    ap (λ (n : ℕ). filter_map h (map v (take n xs))) next
    ∙ ap (λ (t : List X). filter_map h (map v t)) (take-suc xs k d lt)
    ∙ ap (filter_map h) (map-append v (take k xs) (get_or xs k d ∷ []))
    ∙ filter_map-append h (map v (take k xs)) (v (get_or xs k d) ∷ [])

-- an element where h gives nothing may be left out before
pub filtered_first : {Y Z : Type 0} (h : Y → Option Z) (test : Y → Bool) → ((y : Y) → test y ≡ false → h y ≡ None) → (ys : List Y)
    → filter_map h (filter test ys) ≡ filter_map h ys
filtered_first h test nothing [] = refl
filtered_first {Y} {Z} h test nothing (y ∷ ys) = by (test y) refl (filtered_first h test nothing ys)
  where
    by : (b : Bool) → test y ≡ b → filter_map h (filter test ys) ≡ filter_map h ys → filter_map h (filter test (y ∷ ys)) ≡ filter_map h (y ∷ ys)
    by true e rest = rw e (ap (cons_option (h y)) rest)
    by false e rest = rw (e, nothing y e) rest

module _ {X Y Z : Type 0} (h : Y → Option Z) (v : X → Y) (xs : List X) (k : ℕ) (d : X) (lt : k < length xs) (found : List Z) (so_far : found ≡ filter_map h (map v (take k xs))) (o : Option Z) (here : o ≡ h (v (get_or xs k d))) where
  -- the next element gives something, which is added
  pub gathers_one : (z : Z) → o ≡ Some z → found ++ (z ∷ []) ≡ filter_map h (map v (take (k + 1) xs))
  gathers_one z is =
      let single : h (v (get_or xs k d)) ≡ Some z = sym here ∙ is in
      ap (λ (t : List Z). t ++ (z ∷ [])) so_far ∙ sym (one_more h v xs k d lt ∙ ap (λ (p : Option Z). filter_map h (map v (take k xs)) ++ cons_option p []) single)

  -- it gives nothing
  pub gathers_none : o ≡ None → found ≡ filter_map h (map v (take (k + 1) xs))
  gathers_none is =
      let none : h (v (get_or xs k d)) ≡ None = sym here ∙ is in
      so_far ∙ sym (one_more h v xs k d lt ∙ ap (λ (p : Option Z). filter_map h (map v (take k xs)) ++ cons_option p []) none ∙ append-nil _)

-- the elements that pass, with one more
pub next_chosen : {X Y : Type 0} (h : X → Option Y) (xs : List X) (i : ℕ) (x : X) → i < length xs → x ≡ get_or xs i x
    → filter_map h (take (i + 1) xs) ≡ filter_map h (take i xs) ++ cons_option (h x) []
next_chosen {X} {Y} h xs i x within is =
    let next : i + 1 ≡ suc i = omega arith in
    ap (λ (n : ℕ). filter_map h (take n xs)) next ∙ ap (filter_map h) (take-suc xs i x within) ∙ filter_map-append h (take i xs) (get_or xs i x ∷ [])
    ∙ ap (λ (y : X). filter_map h (take i xs) ++ cons_option (h y) []) (sym is)
