-- Overrides in order, one more at a time.
use Rattle.std.proofs.Common.{◌≡◌, ℕ, ◌+◌, ◌<◌, List, [], ◌∷◌, ◌++◌, length, get_or, map, take, string_bytes, arith, ap, sym, ◌∙◌}
use Rattle.std.specs.{Prelude.flat_map, Borrow.Bor, List.enumerate_from}
use Rattle.std.proofs.lemmas.List.{flat_map_more, get_or-map, length-map, map-append, take_more}
use Rattle.std.proofs.lemmas.List.FromFn.{get_or-enumerate_from, length-enumerate_from}
use Rattle.filterset_json.specs.Shape.{Text}
use Rattle.filterset_configuration.specs.{Paths.override_path, Paths.profile_path, Ranking.placed}
use Rattle.filterset_configuration.specs.declared.{overrides.Override.Override, profiles.Profile.Profile}

-- what one more item adds to a list of lists
pub flat_more : {X A : Type 0} (f : X → List A) (xs : List (Bor X)) (i : ℕ) (x : Bor X) → i < length xs → x ≡ get_or xs i x
    → flat_map f (map (λ y. y.now) (take (i + 1) xs)) ≡ flat_map f (map (λ y. y.now) (take i xs)) ++ f x.now
flat_more f xs i x lt is =
    let now = λ (y : Bor _). y.now in
    ap (λ ys. flat_map f (map now ys)) (take_more xs i x lt ∙ ap (λ y. take i xs ++ y ∷ []) (sym is)) ∙ ap (flat_map f) (map-append now (take i xs) (x ∷ []))
    ∙ sym (flat_map_more f [] (map now (take i xs)) x.now)

pub length-placed : (p : Profile) → length (placed p) ≡ length p.overrides.items
length-placed p = length-map (enumerate_from 0 p.overrides.items) _ ∙ length-enumerate_from 0 p.overrides.items

-- one more override of a profile
pub placed_more : (p : Profile) (i : ℕ) (o : Override) → i < length p.overrides.items → o ≡ get_or p.overrides.items i o
    → take (i + 1) (placed p) ≡ take i (placed p) ++ (override_path (profile_path (string_bytes p.name)) i, o) ∷ []
placed_more p i o lt is =
    let os = p.overrides.items in
    let path = λ (at : ℕ). override_path (profile_path (string_bytes p.name)) at in
    let place : ℕ × Override → Text × Override = λ x. (path x.0, x.1) in
    let d : Text × Override = (path i, o) in
    let within : i < length (placed p) = omega (arith, length-placed p) in
    let inside : i < length (enumerate_from 0 os) = omega (arith, length-enumerate_from 0 os) in
    let first : ℕ × Override = (i, o) in
    let here : get_or (placed p) i d ≡ place (get_or (enumerate_from 0 os) i first) = get_or-map place (enumerate_from 0 os) i first d inside in
    let zero : 0 + i ≡ i = omega arith in
    let same : place (0 + i, get_or os i o) ≡ d = λ j. (path (zero j), sym is j) in
    take_more (placed p) i d within ∙ ap (λ y. take i (placed p) ++ y ∷ []) (here ∙ ap place (get_or-enumerate_from 0 os i first lt) ∙ same)
