-- Each character is like the greatest cut up to it.
use Rattle.std.proofs.Common.{rules}
use Rattle.std.proofs.Common.{◌≡◌, ◌↔◌, ℕ, zero, suc, ◌+◌, ◌<◌, ◌≤◌, Bool, true, false, refl, sym, ap, subst, List, [], ◌∷◌, ◌++◌, inl, inr, ⊎_elim, length, get_or, Option, Some, None, arith}
use Rattle.std.specs.{Prelude.◌⊎◌, Char.InScalarRange, List.All, List.flat_map}
use Rattle.std.proofs.lemmas.{Bool.cases_lt, List.Elements.All-head, List.Elements.All-tail}
use Rattle.filterset_glob.specs.Matching.{InClass, InRanges}
use Rattle.filterset_texts.specs.declared.{letters.Letter.Letter, part.Part.Part}
use Rattle.filterset_texts.specs.Letters.{cuts_of, cuts_of_place, cuts_of_ranges, HasLetterLike}
use Rattle.filterset_texts.specs.Places.{Admits, IsAdmittedAt}
use Rattle.filterset_texts.specs.declared.part.Part.TheVariants as part

abbrev pub Among : ℕ → List ℕ → Type 0
Among k [] = ⊥
Among k (x ∷ xs) = (k ≡ x) ⊎ Among k xs

among_left : (k : ℕ) (xs ys : List ℕ) → Among k xs → Among k (xs ++ ys)
among_left k [] ys a = absurd a
among_left k (x ∷ xs) ys (inl is) = inl is
among_left k (x ∷ xs) ys (inr a) = inr (among_left k xs ys a)

among_right : (k : ℕ) (xs ys : List ℕ) → Among k ys → Among k (xs ++ ys)
among_right k [] ys a = a
among_right k (x ∷ xs) ys a = inr (among_right k xs ys a)

at_among : (P : ℕ → Type 0) (k : ℕ) (xs : List ℕ) → All P xs → Among k xs → P k
at_among P k [] all a = absurd a
at_among P k (x ∷ xs) all (inl is) = subst P (sym is) (All-head P x xs all)
at_among P k (x ∷ xs) all (inr a) = at_among P k xs (All-tail P x xs all) a

-- no cut lies between the two
abbrev pub NoneBetween : List ℕ → ℕ → ℕ → Type 0
NoneBetween cuts c g = (k : ℕ) → Among k cuts → k ≤ c → k ≤ g

-- the greatest of g and the cuts up to c
greatest : (cuts : List ℕ) (c g : ℕ) → g ≤ c → (h : ℕ) × ((h ≡ g) ⊎ Among h cuts) × (h ≤ c) × (g ≤ h) × NoneBetween cuts c h
greatest [] c g low = (g, inl refl, low, omega arith, λ k a. absurd a)
greatest (x ∷ xs) c g low =
    ⊎_elim
    (λ (above : c < x). let (h, from, under, over, between) = greatest xs c g low in (
      h,
      ⊎_elim (λ is. inl is) (λ a. inr (inr a)) from,
      under,
      over,
      λ k a le. ⊎_elim (λ is. absurd (omega (arith, is, le, above))) (λ a2. between k a2 le) a,
    ))
    (λ (within : x ≤ c). ⊎_elim
    (λ (less : x < g). let (h, from, under, over, between) = greatest xs c g low in (
      h,
      ⊎_elim (λ is. inl is) (λ a. inr (inr a)) from,
      under,
      over,
      λ k a le. ⊎_elim (λ is. let b : k ≤ h = omega (arith, is, less, over) in b) (λ a2. between k a2 le) a,
    ))
    (λ (more : g ≤ x). let (h, from, under, over, between) = greatest xs c x within in (
      h,
      ⊎_elim (λ is. inr (inl is)) (λ a. inr (inr a)) from,
      under,
      (let b : g ≤ h = omega (arith, more, over) in b),
      λ k a le. ⊎_elim (λ is. let b : k ≤ h = omega (arith, is, over) in b) (λ a2. between k a2 le) a,
    ))
    (cases_lt x g))
    (cases_lt c x)

range_cuts : (ranges : List (ℕ × ℕ)) (k : ℕ) (r : ℕ × ℕ) → k < length ranges → get_or ranges k r ≡ r
    → Among r.0 (cuts_of_ranges ranges) × Among (r.1 + 1) (cuts_of_ranges ranges)
range_cuts [] k r short is = absurd (omega (arith, short))
range_cuts (first ∷ ranges) zero r short is = (inl (ap (λ p. p.0) (sym is)), inr (inl (ap (λ p. p.1 + 1) (sym is))))
range_cuts (first ∷ ranges) (suc k) r short is =
    let (low, high) = range_cuts ranges k r (omega (arith, short)) is in
    (inr (inr low), inr (inr high))

ranges_alike : (ranges : List (ℕ × ℕ)) (c g : ℕ) → g ≤ c → NoneBetween (cuts_of_ranges ranges) c g → InRanges ranges c ↔ InRanges ranges g
ranges_alike ranges c g low between = (
  λ (k, r, short, is, (from, to)). (k, r, short, is, (between r.0 (range_cuts ranges k r short is).0 from, (let b : g ≤ r.1 = omega (arith, low, to) in b))),
  λ (k, r, short, is, (from, to)). (
    k,
    r,
    short,
    is,
    (
      (let b : r.0 ≤ c = omega (arith, low, from) in b),
      ⊎_elim
          (λ (above : r.1 < c). let b : r.1 + 1 ≤ g = between (r.1 + 1) (range_cuts ranges k r short is).1 (omega (arith, above)) in absurd (omega (arith, b, to)))
          (λ (within : c ≤ r.1). within) (cases_lt r.1 c),
    ),
  ),
)

class_alike : (negated : Bool) (ranges : List (ℕ × ℕ)) (c g : ℕ) → g ≤ c → NoneBetween (cuts_of_ranges ranges) c g → InClass negated ranges c ↔ InClass negated ranges g
class_alike false ranges c g low between = ranges_alike ranges c g low between
class_alike true ranges c g low between = search (rules, arith, ranges_alike)

place_alike : (place : Option Part) (c g : ℕ) → g ≤ c → NoneBetween (cuts_of_place place) c g → Admits place c ↔ Admits place g
place_alike None c g low between = (λ h. h, λ h. h)
place_alike (Some part.Any) c g low between = (λ h. h, λ h. h)
place_alike (Some (part.One negated ranges)) c g low between = class_alike negated ranges.items c g low between

row_alike : (row : List (Option Part)) (c g : ℕ) → g ≤ c → NoneBetween (flat_map cuts_of_place row) c g → (i : ℕ) → Admits (get_or row i None) c ↔ Admits (get_or row i None) g
row_alike [] c g low between i = (λ h. h, λ h. h)
row_alike (place ∷ row) c g low between zero =
    place_alike place c g low (λ k a le. between k (among_left k (cuts_of_place place) (flat_map cuts_of_place row) a) le)
row_alike (place ∷ row) c g low between (suc i) =
    row_alike row c g low (λ k a le. between k (among_right k (cuts_of_place place) (flat_map cuts_of_place row) a) le) i

scalar_cut : (c g : ℕ) → InScalarRange c → g ≤ c → (0xE000 ≤ c → 0xE000 ≤ g) → InScalarRange g
scalar_cut c g (inl below) low behind = inl (omega (arith, below, low))
scalar_cut c g (inr (from, to)) low behind = inr (behind from, omega (arith, low, to))

-- a character whose number is a cut, and which the same parts admit
pub cut_like : (row : List (Option Part)) (c : ℕ) → InScalarRange c
    → (g : ℕ) × Among g (cuts_of row) × InScalarRange g × ((marks : List Bool) → IsAdmittedAt row g marks → IsAdmittedAt row c marks)
cut_like row c scalar =
    let (g, from, low, over, between) = greatest (0xE000 ∷ flat_map cuts_of_place row) c 0 (omega arith) in (
      g,
      ⊎_elim (λ is. inl is) (λ a. inr a) from,
      scalar_cut c g scalar low (between 0xE000 (inl refl)),
      λ marks admitted. record {
        same_length = admitted.same_length;
        each = λ k short. let same : Admits (get_or row k None) c ↔ Admits (get_or row k None) g = row_alike row c g low (λ j a le. between j (inr a) le) k in
            (λ h. same.1 ((admitted.each k short).0 h), λ h. (admitted.each k short).1 (same.0 h));
      },
    )

pub all_from_cuts : (row : List (Option Part)) (letters : List Letter) → All (λ number. InScalarRange number → HasLetterLike row letters number) (cuts_of row)
    → (c : ℕ) → InScalarRange c → HasLetterLike row letters c
all_from_cuts row letters all c scalar =
    let (g, among, own, like) = cut_like row c scalar in
    let (k, letter, short, is, admitted) = at_among (λ number. InScalarRange number → HasLetterLike row letters number) g (cuts_of row) all among own in
    (k, letter, short, is, like letter.marks.items admitted)
