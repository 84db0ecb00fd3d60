-- The marks of positions that others lead to, and the index of names.
use Rattle.std.proofs.Common.{◌≡◌, ◌<◌, ◌≤◌, ◌+◌, ◌++◌, ℕ, zero, suc, Bool, true, false, List, [], ◌∷◌, Option, Some, ◌⊎◌, inl, inr, ⊎_elim, ap, arith, cond, length, refl, replicate, sym, take, ◌∙◌}
use Rattle.std.specs.{Prelude.◌↔◌, Prelude.IsSome, Prelude.bytes_eq, Prelude.slice_get, Borrow.Bor, BTreeMap.BTreeMap}
use Rattle.std.proofs.lemmas.{Bool.cases_eq, List.take-append-le, List.take_all, Option.same_Some}
use Rattle.std.proofs.lemmas.Slice.Eq.{bytes_eq-Decides}
use Rattle.filterset_json.specs.Shape.{Text}
use Rattle.filterset_configuration.specs.Circles.{IsIndex, position_of}
use Rattle.filterset_configuration.specs.Leads.{IsMarked, MarksEnds, lead}
use Rattle.filterset_configuration.proofs.{LeadLemmas.lead_inside, PlaceLemmas.slice_get-push}

-- exactly the positions are marked that those below a number lead to
abbrev pub MarksEndsBelow : List (Option ℕ) → ℕ → List Bool → Type 0
MarksEndsBelow leads n marks =
    (length marks ≡ length leads)
    × ((at : ℕ) → (slice_get marks at ≡ Some true) ↔ ((at < length leads) × ((from : ℕ) × (from < n) × (lead leads from ≡ Some at))))

pub ends_none : (leads : List (Option ℕ)) (marks : List Bool) → length marks ≡ length leads → ((at : ℕ) → slice_get marks at ≡ Some true → ⊥)
    → MarksEndsBelow leads 0 marks
ends_none leads marks long none = (
  long,
  λ at. ((λ marked. absurd (none at marked)), (λ h. absurd (omega (arith, h.1.1)))),
)

pub ends_more : (leads : List (Option ℕ)) (n : ℕ) (marks new : List Bool) (to : Option ℕ) → lead leads n ≡ to → IsMarked marks to new
    → MarksEndsBelow leads n marks → MarksEndsBelow leads (n + 1) new
ends_more leads n marks new to here is before = (
  is.0 ∙ before.0,
  λ at. (
    (λ marked.
        ⊎_elim
        (λ old.
        let h = (before.1 at).0 old in
        (h.0, (h.1.0, omega (arith, h.1.1), h.1.2)))
        (λ now. (omega (arith, now.0, before.0), (n, omega arith, here ∙ now.1)))
        ((is.1 at).0 marked)),
    (λ h.
        ⊎_elim
        (λ same.
        (is.1 at).1 (inr (omega (arith, h.0, before.0), sym here ∙ ap (lead leads) (sym same) ∙ h.1.2)))
        (λ other. (is.1 at).1 (inl ((before.1 at).1 (h.0, (h.1.0, omega (arith, h.1.1, other), h.1.2)))))
        (cases_eq h.1.0 n)),
  ),
)

pub ends_all : (leads : List (Option ℕ)) (n : ℕ) (marks : List Bool) → length leads ≤ n → MarksEndsBelow leads n marks → MarksEnds leads marks
ends_all leads n marks all before at = (
  (λ marked.
      let h = (before.1 at).0 marked in
      (h.0, (h.1.0, h.1.2))),
  (λ h. (before.1 at).1 (h.0, (h.1.0, omega (arith, lead_inside leads h.1.0 at h.1.1, all), h.1.1))),
)

-- a part that was written through a slice
pub whole_written : {X : Type 0} (n : ℕ) (xs ys : List X) → n ≡ length xs → take n (xs ++ ys) ≡ xs
whole_written n xs ys is = let le : n ≤ length xs = omega (arith, is) in take-append-le n xs ys le ∙ take_all n xs (omega (arith, is))

pub no_marks : (n at : ℕ) → slice_get (replicate n false) at ≡ Some true → ⊥
no_marks zero at h = absurd (cc)
no_marks (suc n) zero h = let wrong = same_Some false true h in cc
no_marks (suc n) (suc at) h = no_marks n at h

-- ---- one more name

there_still : {X : Type 0} (xs ys : List X) (at : ℕ) (x : X) → slice_get xs at ≡ Some x → slice_get (xs ++ ys) at ≡ Some x
there_still [] ys at x h = absurd (cc)
there_still (z ∷ xs) ys zero x h = h
there_still (z ∷ xs) ys (suc at) x h = there_still xs ys at x h

there_last : {X : Type 0} (xs : List X) (x : X) → slice_get (xs ++ x ∷ []) (length xs) ≡ Some x
there_last [] x = refl
there_last (z ∷ xs) x = there_last xs x

some_kept : (found : Option ℕ) (equal : Bool) (at : ℕ) → (equal ≡ false → IsSome found) → IsSome (cond equal (Some at) found)
some_kept found true at h = refl
some_kept found false at h = h refl

is_or_was : (found : Option ℕ) (equal : Bool) (last at : ℕ) → cond equal (Some last) found ≡ Some at
    → ((equal ≡ true) × (last ≡ at)) ⊎ (found ≡ Some at)
is_or_was found true last at h = inl (refl, same_Some last at h)
is_or_was found false last at h = inr h

pub index_more : (names : List Text) (name : Text) (old new : BTreeMap (Bor Text) ℕ)
    → ((q : Text) → position_of new q ≡ cond (bytes_eq name q) (Some (length names)) (position_of old q))
    → IsIndex names old → IsIndex (names ++ name ∷ []) new
index_more names name old new updates index = (
  (λ q at found.
      ⊎_elim
      (λ last.
      let same : name ≡ q = (bytes_eq-Decides name q).0 last.0 in
      ap (slice_get (names ++ name ∷ [])) (sym last.1) ∙ there_last names name ∙ ap Some same)
      (λ before. there_still names (name ∷ []) at q (index.0 q at before))
      (is_or_was (position_of old q) (bytes_eq name q) (length names) at (sym (updates q) ∙ found))),
  (λ q at there.
      let kept = some_kept (position_of old q) (bytes_eq name q) (length names) (λ other.
      ⊎_elim
      (λ before. index.1 q at before)
      (λ same. absurd (let wrong = (bytes_eq-Decides name q).1 same.1 in cc))
      (slice_get-push names name q at there)) in
      rw (updates q) kept),
)
