-- The names of known groups.
use Rattle.std.proofs.Common.{◌≡◌, ◌∙◌, ◌↔◌, ◌⊎◌, Bor, Global, List, String, ◌∷◌, ap, inl, inr, map, string_bytes, subst, sym, ⊎_elim}
use Rattle.std.specs.{List.Contains, List.Sorted.IsPermutation, Prelude.codes}
use Rattle.std.proofs.lemmas.List.Sorted.{Contains-permutation, IsPermutation-sym}
use Rattle.filterset_deciding.proofs.{Doubts.contains_first, Doubts.contains_later, Rules.contains_cases}
use Rattle.filterset_display.specs.Columns.{Text}
use Rattle.nextest_filtering.proofs.Members.{from_mapped, mapped}

-- the elements of a list in another order have the same texts
same_texts : (xs ys : List (Bor Text)) (name : Text) → IsPermutation xs ys → Contains (map (λ (g : Bor Text). g.now) xs) name → Contains (map (λ (g : Bor Text). g.now) ys) name
same_texts xs ys name order is =
    let found = from_mapped (λ (g : Bor Text). g.now) xs name is in
    subst (Contains (map (λ (g : Bor Text). g.now) ys)) found.2 (mapped (λ (g : Bor Text). g.now) ys found.0 (Contains-permutation xs ys found.0 order found.1))

-- `@global` and the custom names, in any order, are the names of known groups
pub group_names_known : (custom : List (String Global)) (own sorted all : List (Bor Text)) (global : Bor Text)
    → map (λ (g : Bor Text). g.now) own ≡ map (λ (s : String Global). string_bytes s) custom
    → IsPermutation own sorted → all ≡ global ∷ sorted → global.now ≡ codes "@global"
    → (name : Text) → Contains (map (λ (g : Bor Text). g.now) all) name
    ↔ ((name ≡ codes "@global") ⊎ ((s : String Global) × Contains custom s × (string_bytes s ≡ name)))
group_names_known custom own sorted all global texts order is first name =
    let names = map (λ (g : Bor Text). g.now) sorted in
    let strings = map (λ (s : String Global). string_bytes s) custom in
    let Listed : List Text → Type 0 = λ ns. Contains ns name in
    let whole : map (λ (g : Bor Text). g.now) all ≡ global.now ∷ names = ap (λ (gs : List (Bor Text)). map (λ (g : Bor Text). g.now) gs) is in (
      λ listed. ⊎_elim (λ same. inl (sym same ∙ first))
          (λ later. inr (from_mapped (λ (s : String Global). string_bytes s) custom name (subst Listed texts (same_texts sorted own name (IsPermutation-sym own sorted order) later))))
          (contains_cases name global.now names (subst Listed whole listed)),
      λ known. subst Listed (sym whole) (⊎_elim (λ same. subst (Contains (global.now ∷ names)) (first ∙ sym same) (contains_first global.now names))
          (λ found. contains_later name global.now names (same_texts own sorted name order
          (subst Listed (sym texts) (subst (Contains strings) found.2 (mapped (λ (s : String Global). string_bytes s) custom found.0 found.1))))) known),
    )
