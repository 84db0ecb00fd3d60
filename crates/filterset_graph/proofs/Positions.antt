-- Positions in lists, and the rows of positions that an index keeps.
use Rattle.std.proofs.Common.{zero, suc, ◌≡◌, ◌<◌, ℕ, List, [], ◌∷◌, Option, Some, length, map, refl, sym, ◌∙◌, ap, arith}
use Rattle.std.specs.Prelude.{Contains, slice_get}
use Rattle.std.proofs.lemmas.Grind.{common_steps}
use Rattle.std.proofs.lemmas.Option.{gets, same_Some, slice_get-get_or, slice_get_within, get_or_from_slice_get}

-- an element of a list has a position, and what stands at a position is an element
pub position_from_Contains : {X : Type 0} (xs : List X) (x : X) → Contains xs x → (k : ℕ) × (slice_get xs k ≡ Some x)
position_from_Contains xs x c = (c.0, slice_get-get_or xs c.0 x c.1 ∙ ap Some c.2)

pub Contains-from_position : {X : Type 0} (xs : List X) (x : X) (k : ℕ) → slice_get xs k ≡ Some x → Contains xs x
Contains-from_position xs x k e = (k, slice_get_within xs k x e, get_or_from_slice_get xs k x x e)

-- a position below the length has an element
pub element_at : {X : Type 0} (xs : List X) (k : ℕ) → k < length xs → (x : X) × (slice_get xs k ≡ Some x)
element_at [] k h = absurd (omega (arith, h))
element_at (x ∷ xs) zero h = (x, refl)
element_at (x ∷ xs) (suc k) h = element_at xs k (omega (arith, h))

-- what stands at a position of a mapped list was made of the element there
pub element_from_mapped : {X Y : Type 0} (f : X → Y) (xs : List X) (k : ℕ) (y : Y) → slice_get (map f xs) k ≡ Some y → (x : X) × (slice_get xs k ≡ Some x) × (f x ≡ y)
element_from_mapped f [] k y e = absurd (cc)
element_from_mapped f (x ∷ xs) zero y e = (x, refl, same_Some (f x) y e)
element_from_mapped f (x ∷ xs) (suc k) y e = element_from_mapped f xs k y e

pub mapped_at : {X Y : Type 0} (f : X → Y) (xs : List X) (k : ℕ) (x : X) → slice_get xs k ≡ Some x → slice_get (map f xs) k ≡ Some (f x)
mapped_at f xs k x e = grind (arith, common_steps, gets)

-- a row that lists what f finds of each element
pub row_names : {X : Type 0} (f : X → Option ℕ) (xs : List X) (row : List ℕ) → map f xs ≡ map Some row → (b : ℕ) → Contains row b → (x : X) × Contains xs x × (f x ≡ Some b)
row_names f xs row e b c =
    let at = position_from_Contains row b c in
    let found = element_from_mapped f xs at.0 (Some b) (ap (λ (l : List (Option ℕ)). slice_get l at.0) e ∙ mapped_at Some row at.0 b at.1) in
    (found.0, Contains-from_position xs found.0 at.0 found.1, found.2)

pub row_has : {X : Type 0} (f : X → Option ℕ) (xs : List X) (row : List ℕ) → map f xs ≡ map Some row → (x : X) → Contains xs x → (b : ℕ) × Contains row b × (f x ≡ Some b)
row_has f xs row e x c =
    let at = position_from_Contains xs x c in
    let found = element_from_mapped Some row at.0 (f x) (ap (λ (l : List (Option ℕ)). slice_get l at.0) (sym e) ∙ mapped_at f xs at.0 x at.1) in
    (found.0, Contains-from_position row found.0 at.0 found.1, sym found.2)
