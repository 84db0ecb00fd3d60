-- Places of filtersets, and a list with one element more.
use Rattle.std.proofs.Common.{◌≡◌, ℕ, zero, suc, ◌⊎◌, List, [], ◌∷◌, ◌++◌, length, Option, Some, refl, arith, inl, inr, subst}
use Rattle.std.specs.List.{slice_get}
use Rattle.filterset_json.specs.Shape.{Text}
use Rattle.filterset_sources.specs.Configurations.{ConfiguredRow, IsConfiguration, configured_rows}
use Rattle.filterset_sources.specs.declared.configuration.Configuration.{Configuration}
use Rattle.filterset_configuration.specs.{Numbers.AreApart, Numbers.numbered, declared.place.Place.Place}
use Rattle.filterset_configuration.specs.{declared.stretch.Stretch.Stretch, Places.ArePlaces, Places.ArePlacesAmong}

pub slice_get-push : {X : Type 0} (xs : List X) (x y : X) (i : ℕ) → slice_get (xs ++ x ∷ []) i ≡ Some y
    → (slice_get xs i ≡ Some y) ⊎ ((i ≡ length xs) × (x ≡ y))
slice_get-push [] x y zero h = inr (refl, cc)
slice_get-push [] x y (suc i) h = absurd (cc)
slice_get-push (z ∷ zs) x y zero h = inl h
slice_get-push (z ∷ zs) x y (suc i) h = elim (slice_get-push zs x y i h) [
  | inl here ↦ inl here
  | inr there ↦ let e : i ≡ length zs = there.0 in inr (omega arith, there.1)
]

-- places among the filtersets of the file with numbers are places
pub places-all : (file : Text) (rows : List ConfiguredRow) (places : List (Option Place)) (literals : List Stretch) (made : Text)
    (others : Configuration) → AreApart 0 literals → made ≡ numbered file literals → IsConfiguration made others
    → ArePlacesAmong file literals rows (configured_rows others.filtersets.items) places → ArePlaces file rows places
places-all file rows places literals made others apart is says among = λ at place found.
    (literals, others, apart, subst (λ (t : Text). IsConfiguration t others) is says, among at place found)
