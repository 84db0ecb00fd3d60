-- Which elements lists have that are filtered, or joined of parts.
use Rattle.std.proofs.Common.{◌≡◌, ◌⊎◌, inl, inr, ⊎_elim, ℕ, ◌<◌, Bool, true, false, List, [], ◌∷◌, map, get_or, refl, sym, ◌∙◌, ap, subst, arith}
use Rattle.std.specs.Prelude.{Contains, Option, Some, None, length}
use Rattle.std.specs.List.{filter, filter_map, flat_map}
use Rattle.std.proofs.lemmas.List.Concat.{flat_map-cons}
use Rattle.std.proofs.lemmas.List.Elements.{Contains-append_left, Contains-append_right, Contains-append_cases, Contains-push, Contains-push_cases, Contains-get_or}
use Rattle.filterset_graph.proofs.Positions.{position_from_Contains, Contains-from_position, element_from_mapped, mapped_at}
use Rattle.std.proofs.lemmas.Option.{same_Some}

module _ {X : Type 0} where
  pub none_in : (x : X) → Contains [] x → ⊥
  none_in x c = omega (arith, c.1)

  pub first : (x : X) (xs : List X) → Contains (x ∷ xs) x
  first x xs = Contains-append_left (x ∷ []) xs x (Contains-push [] x)

  pub later : (y : X) (xs : List X) (x : X) → Contains xs x → Contains (y ∷ xs) x
  later y xs x c = Contains-append_right (y ∷ []) xs x c

  pub first_or_later : (y : X) (xs : List X) (x : X) → Contains (y ∷ xs) x → (y ≡ x) ⊎ Contains xs x
  first_or_later y xs x c =
      ⊎_elim (λ one. ⊎_elim (λ none. absurd (none_in x none)) (λ is. inl is) (Contains-push_cases [] y x one)) (λ rest. inr rest) (Contains-append_cases (y ∷ []) xs x c)

  -- what a filter keeps
  pub kept : (test : X → Bool) (xs : List X) (x : X) → Contains xs x → test x ≡ true → Contains (filter test xs) x
  kept test [] x c is = absurd (none_in x c)
  kept test (y ∷ ys) x c is = by (test y) refl (first_or_later y ys x c) (λ rest. kept test ys x rest is)
    where
      by : (b : Bool) → test y ≡ b → (y ≡ x) ⊎ Contains ys x → (Contains ys x → Contains (filter test ys) x) → Contains (filter test (y ∷ ys)) x
      by true e (inl same) more = rw e (subst (λ (z : X). Contains (y ∷ filter test ys) z) same (first y (filter test ys)))
      by true e (inr rest) more = rw e (later y (filter test ys) x (more rest))
      by false e (inl same) more = absurd (let h : test y ≡ true = ap test same ∙ is in cc)
      by false e (inr rest) more = rw e (more rest)

  pub from_filter : (test : X → Bool) (xs : List X) (x : X) → Contains (filter test xs) x → Contains xs x × (test x ≡ true)
  from_filter test [] x c = absurd (none_in x c)
  from_filter test (y ∷ ys) x c = by (test y) refl c (from_filter test ys x)
    where
      by : (b : Bool) → test y ≡ b → Contains (filter test (y ∷ ys)) x → (Contains (filter test ys) x → Contains ys x × (test x ≡ true)) → Contains (y ∷ ys) x × (test x ≡ true)
      by true e d more = ⊎_elim (λ same. (subst (λ (z : X). Contains (y ∷ ys) z) same (first y ys), ap test (sym same) ∙ e))
          (λ rest. let h = more rest in (later y ys x h.0, h.1)) (first_or_later y (filter test ys) x (rw e at d))
      by false e d more = let h = more (rw e at d) in (later y ys x h.0, h.1)

module _ {X Y : Type 0} where
  -- what a choosing function gives of some element
  pub chosen : (h : X → Option Y) (xs : List X) (x : X) (y : Y) → Contains xs x → h x ≡ Some y → Contains (filter_map h xs) y
  chosen h [] x y c is = absurd (none_in x c)
  chosen h (z ∷ zs) x y c is = by (h z) refl (first_or_later z zs x c) (λ rest. chosen h zs x y rest is)
    where
      by : (o : Option Y) → h z ≡ o → (z ≡ x) ⊎ Contains zs x → (Contains zs x → Contains (filter_map h zs) y) → Contains (filter_map h (z ∷ zs)) y
      by (Some w) e (inl same) more = let t : w ≡ y = same_Some w y (sym e ∙ ap h same ∙ is) in rw e (subst (λ (v : Y). Contains (w ∷ filter_map h zs) v) t (first w (filter_map h zs)))
      by (Some w) e (inr rest) more = rw e (later w (filter_map h zs) y (more rest))
      by None e (inl same) more = absurd (let t : h z ≡ Some y = ap h same ∙ is in cc)
      by None e (inr rest) more = rw e (more rest)

  pub from_chosen : (h : X → Option Y) (xs : List X) (y : Y) → Contains (filter_map h xs) y → (x : X) × Contains xs x × (h x ≡ Some y)
  from_chosen h [] y c = absurd (none_in y c)
  from_chosen h (z ∷ zs) y c = by (h z) refl c (from_chosen h zs y)
    where
      by : (o : Option Y) → h z ≡ o → Contains (filter_map h (z ∷ zs)) y → (Contains (filter_map h zs) y → (x : X) × Contains zs x × (h x ≡ Some y))
          → (x : X) × Contains (z ∷ zs) x × (h x ≡ Some y)
      by (Some w) e d more = ⊎_elim (λ same. (z, first z zs, e ∙ ap (λ (v : Y). Some v) same))
          (λ rest. let k = more rest in (k.0, later z zs k.0 k.1, k.2)) (first_or_later w (filter_map h zs) y (rw e at d))
      by None e d more = let k = more (rw e at d) in (k.0, later z zs k.0 k.1, k.2)

  -- what lists have that are joined
  pub joined : (f : X → List Y) (xs : List X) (x : X) (y : Y) → Contains xs x → Contains (f x) y → Contains (flat_map f xs) y
  joined f [] x y c d = absurd (none_in x c)
  joined f (z ∷ zs) x y c d =
      rw (flat_map-cons f z zs) (⊎_elim (λ same. Contains-append_left (f z) (flat_map f zs) y (subst (λ (v : X). Contains (f v) y) (sym same) d))
      (λ rest. Contains-append_right (f z) (flat_map f zs) y (joined f zs x y rest d)) (first_or_later z zs x c))

  pub from_joined : (f : X → List Y) (xs : List X) (y : Y) → Contains (flat_map f xs) y → (x : X) × Contains xs x × Contains (f x) y
  from_joined f [] y c = absurd (none_in y c)
  from_joined f (z ∷ zs) y c =
      ⊎_elim (λ here. (z, first z zs, here)) (λ rest. let k = from_joined f zs y rest in (k.0, later z zs k.0 k.1, k.2))
      (Contains-append_cases (f z) (flat_map f zs) y (rw (flat_map-cons f z zs) at c))

-- what a list has is mapped, and what a mapped list has stands for it
pub mapped : {X Y : Type 0} (f : X → Y) (xs : List X) (x : X) → Contains xs x → Contains (map f xs) (f x)
mapped f xs x c = let at = position_from_Contains xs x c in Contains-from_position (map f xs) (f x) at.0 (mapped_at f xs at.0 x at.1)

pub from_mapped : {X Y : Type 0} (f : X → Y) (xs : List X) (y : Y) → Contains (map f xs) y → (x : X) × Contains xs x × (f x ≡ y)
from_mapped f xs y c =
    let at = position_from_Contains (map f xs) y c in let e = element_from_mapped f xs at.0 y at.1 in (e.0, Contains-from_position xs e.0 at.0 e.1, e.2)

-- the element of a loop's turn
pub here : {X : Type 0} (xs : List X) (i : ℕ) (x : X) → i < length xs → x ≡ get_or xs i x → Contains xs x
here {X = X} xs i x within is = subst (λ (z : X). Contains xs z) (sym is) (Contains-get_or xs i x within)
