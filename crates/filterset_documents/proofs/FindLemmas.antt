-- The first element of a list that passes a test.
use Rattle.std.proofs.Common.{◌≡◌, Bool, true, false, cond, List, [], ◌∷◌, map, refl, sym, ap, ◌∙◌}
use Rattle.std.specs.Prelude.{Option, Some, filter, find, option_map, slice_get}
use Rattle.std.proofs.lemmas.Option.{slice_get-map}

-- it is the first of those that pass
find-filter : {A : Type 0} (p : A → Bool) (xs : List A) → find p xs ≡ slice_get (filter p xs) 0
find-filter p [] = refl
find-filter p (x ∷ xs) =
    elim (p x) as (λ b. cond b (Some x) (find p xs) ≡ slice_get (cond b (x ∷ filter p xs) (filter p xs)) 0) [ true ↦ refl | false ↦ find-filter p xs ]

-- the same of a list whose elements are seen as others
find-map : {A B : Type 0} (f : A → B) (p : B → Bool) (xs : List A) → find p (map f xs) ≡ option_map f (find (λ x. p (f x)) xs)
find-map f p [] = refl
find-map f p (x ∷ xs) =
    elim (p (f x)) as (λ b. cond b (Some (f x)) (find p (map f xs)) ≡ option_map f (cond b (Some x) (find (λ y. p (f y)) xs))) [ true ↦ refl | false ↦ find-map f p xs ]

-- the first element that passes, of a list of those that pass
pub find_first : {A B : Type 0} (f : A → B) (p : B → Bool) (xs : List B) (ys : List A) (o : Option A)
    → map f ys ≡ filter p xs → o ≡ slice_get ys 0 → find p xs ≡ option_map f o
find_first f p xs ys o are is =
    find-filter p xs ∙ ap (λ zs. slice_get zs 0) (sym are) ∙ slice_get-map f ys 0 ∙ ap (option_map f) (sym is)

-- the first element that is seen as one that passes
pub find_seen : {A B : Type 0} (f : A → B) (p : B → Bool) (xs : List A) (o : Option A)
    → o ≡ find (λ x. p (f x)) xs → find p (map f xs) ≡ option_map f o
find_seen f p xs o is = find-map f p xs ∙ ap (option_map f) (sym is)
