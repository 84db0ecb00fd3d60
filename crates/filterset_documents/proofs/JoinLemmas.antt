-- The steps in which lists are made part by part.
use Rattle.std.proofs.Common.{◌≡◌, ℕ, ◌+◌, ◌<◌, List, [], ◌∷◌, ◌++◌, length, map, take, get_or, sym, subst, append_assoc}
use Rattle.std.proofs.lemmas.List.{append-nil, map-append, take_more}
use Rattle.std.specs.List.{AllZip}
use Rattle.filterset_configuration.proofs.Zips.{zip_push}
pub use Rattle.filterset_entries.proofs.RowsLemmas.{rows_more}
use Rattle.filterset_documents.specs.Joins.{Joins, no_parts, next_part}

-- one more part
pub Joins-push : {A B : Type 0} (P : A → List B → Type 0) (xs : List A) (x : A) (ys added : List B) → Joins P xs ys → P x added → Joins P (xs ++ x ∷ []) (ys ++ added)
Joins-push P xs x ys added no_parts is = subst (Joins P (x ∷ [])) (append-nil added) (next_part is no_parts)
Joins-push P xs x ys added (next_part {x = z} {xs = zs} {front} {rest} is_first are) is =
    subst (Joins P (z ∷ (zs ++ x ∷ []))) (sym (append_assoc front rest added)) (next_part is_first (Joins-push P zs x rest added are is))

-- the part of the next element of a list
pub Joins-more : {A B C D : Type 0} (P : B → List D → Type 0) (f : A → B) (g : C → D) (xs : List A) (i : ℕ) (x : A) (ys added : List C)
    → i < length xs → get_or xs i x ≡ x → Joins P (map f (take i xs)) (map g ys) → P (f x) (map g added)
    → Joins P (map f (take (i + 1) xs)) (map g (ys ++ added))
Joins-more P f g xs i x ys added lt at are is =
    rw (rows_more f xs i x lt at, map-append g ys added) (Joins-push P (map f (take i xs)) (f x) (map g ys) (map g added) are is)

-- the same, of parts that are seen as they are
pub Joins-rows : {A B D : Type 0} (P : B → List D → Type 0) (f : A → B) (xs : List A) (i : ℕ) (x : A) (ys added : List D)
    → i < length xs → get_or xs i x ≡ x → Joins P (map f (take i xs)) ys → P (f x) added
    → Joins P (map f (take (i + 1) xs)) (ys ++ added)
Joins-rows P f xs i x ys added lt at are is =
    rw (rows_more f xs i x lt at) (Joins-push P (map f (take i xs)) (f x) ys added are is)

-- the same, of elements that are too
pub Joins-items : {A D : Type 0} (P : A → List D → Type 0) (xs : List A) (i : ℕ) (x : A) (ys added : List D)
    → i < length xs → get_or xs i x ≡ x → Joins P (take i xs) ys → P x added → Joins P (take (i + 1) xs) (ys ++ added)
Joins-items P xs i x ys added lt at are is =
    rw (take_more xs i x lt, at) (Joins-push P (take i xs) x ys added are is)

-- one more pair, of what elements are seen as
pub Zips-rows : {A B C D : Type 0} (R : B → D → Type 0) (f : A → B) (g : C → D) (xs : List A) (i : ℕ) (x : A) (ys : List C) (y : C)
    → i < length xs → get_or xs i x ≡ x → AllZip R (map f (take i xs)) (map g ys) → R (f x) (g y)
    → AllZip R (map f (take (i + 1) xs)) (map g (ys ++ y ∷ []))
Zips-rows R f g xs i x ys y lt at are is =
    rw (rows_more f xs i x lt at, map-append g ys (y ∷ [])) (zip_push R (map f (take i xs)) (map g ys) (f x) (g y) are is)

-- one more pair
pub Zips-next : {A B C : Type 0} (R : A → B → Type 0) (g : C → B) (xs : List A) (i : ℕ) (d : A) (ys : List C) (y : C)
    → i < length xs → AllZip R (take i xs) (map g ys) → R (get_or xs i d) (g y)
    → AllZip R (take (i + 1) xs) (map g (ys ++ y ∷ []))
Zips-next R g xs i d ys y lt are is =
    rw (take_more xs i d lt, map-append g ys (y ∷ [])) (zip_push R (take i xs) (map g ys) (get_or xs i d) (g y) are is)

-- the same, of elements that are seen as they are
pub Zips-items : {A B C : Type 0} (R : A → B → Type 0) (g : C → B) (xs : List A) (i : ℕ) (x : A) (ys : List C) (y : C)
    → i < length xs → get_or xs i x ≡ x → AllZip R (take i xs) (map g ys) → R x (g y)
    → AllZip R (take (i + 1) xs) (map g (ys ++ y ∷ []))
Zips-items R g xs i x ys y lt at are is = Zips-next R g xs i x ys y lt are (subst (λ z. R z (g y)) (sym at) is)
