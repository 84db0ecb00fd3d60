-- Sets of package ids.
use Rattle.std.proofs.Common.{◌≡◌, ℕ, List, [], ◌∷◌, ◌++◌, refl, sym, ap, ◌∙◌, subst, append_assoc}
use Rattle.std.specs.{Prelude.Contains, Bool.Decides, BTreeSet.insert_key, declared.cmp.Ordering.TheVariants.Less}
use Rattle.std.specs.Cmp.Lexicographic.{slice_cmp, nat_list_eq_equiv, nat_list_cmp_total}
use Rattle.std.specs.List.{list_any, AllByRecursion, Sorted.IsStrictlySortedBy}
use Rattle.std.specs.Ordering.{is_eq, nat_cmp}
use Rattle.std.proofs.lemmas.Map.{Text.is_eq-slice_cmp, Views.Contains-from_any, Views.list_any-from_Contains}
use Rattle.std.proofs.lemmas.Slice.Eq.{bytes_eq-Decides}

-- a look-up finds an id exactly where the list holds it
pub found_exactly : (id : List ℕ) (ids : List (List ℕ)) → Decides (list_any (λ one. is_eq (slice_cmp nat_cmp id one)) ids) (Contains ids id)
found_exactly id ids =
    simp is_eq-slice_cmp (Contains-from_any (λ x y. (bytes_eq-Decides x y).0) id ids, list_any-from_Contains nat_list_eq_equiv id ids)

-- what holds of each element of a list holds of one in its middle
here : {A : Type 0} (P : A → Type 0) (front : List A) (x : A) (rest : List A) → AllByRecursion P (front ++ x ∷ rest) → P x
here P [] x rest all = all.0
here P (y ∷ front) x rest all = here P front x rest all.1

-- an id that is above all others goes to the end
insert_key-last : (front : List (List ℕ)) (id : List ℕ) (rest : List (List ℕ)) → IsStrictlySortedBy (slice_cmp nat_cmp) (front ++ id ∷ rest)
    → insert_key (slice_cmp nat_cmp) front id ≡ front ++ id ∷ []
unfolding IsStrictlySortedBy
insert_key-last [] id rest sorted = refl
insert_key-last (x ∷ front) id rest sorted =
    let less : slice_cmp nat_cmp x id ≡ Less = here (λ y. slice_cmp nat_cmp x y ≡ Less) front id rest sorted.0 in
    let ends = insert_key-last front id rest sorted.1 in rw (nat_list_cmp_total.antisymm id x, less, ends) refl

-- an id is taken from the front of what is left to the end of what was copied
pub copied_one : (all copy left : List (List ℕ)) (id : List ℕ) (rest copied : List (List ℕ)) → IsStrictlySortedBy (slice_cmp nat_cmp) all → copy ++ left ≡ all
    → left ≡ id ∷ rest → copied ≡ insert_key (slice_cmp nat_cmp) copy id → copied ++ rest ≡ all
copied_one all copy left id rest copied sorted whole first inserted =
    let e : copy ++ id ∷ rest ≡ all = ap (λ (xs : List (List ℕ)). copy ++ xs) (sym first) ∙ whole in
    let ends = insert_key-last copy id rest (subst (IsStrictlySortedBy (slice_cmp nat_cmp)) (sym e) sorted) in
    rw (inserted, ends, append_assoc) e
