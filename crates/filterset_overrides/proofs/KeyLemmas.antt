-- Texts, each once.
use Rattle.std.proofs.Common.{◌≡◌, ◌≢◌, true, false, List, [], ◌∷◌, ◌++◌, map, get_or, refl, sym, subst, ◌∙◌, inl, inr, arith, Contains}
use Rattle.std.specs.{List.list_any, Str.bytes_eq}
use Rattle.std.proofs.lemmas.Bool.{false≢true}
use Rattle.std.proofs.lemmas.List.Elements.{Contains-append_left, Contains-get_or, Contains-push, Contains-push_cases}
use Rattle.std.proofs.lemmas.List.Folds.{Any-from_list_any, list_any-from_Any}
use Rattle.std.proofs.lemmas.{List.Quantifiers.all_pairs_push, Slice.Eq.bytes_eq-Decides}
use Rattle.filterset_overrides.specs.{Applying.Text, Giving.AreDistinctOf}

any_mapped : {A : Type 0} (f : A → Text) (key : Text) (xs : List A) → list_any (λ x. bytes_eq (f x) key) xs ≡ list_any (λ t. bytes_eq t key) (map f xs)
any_mapped f key [] = refl
any_mapped f key (x ∷ xs) = let more = any_mapped f key xs in cc

-- a test that finds a text
pub found : (key : Text) (texts : List Text) → list_any (λ t. bytes_eq t key) texts ≡ true → Contains texts key
found key texts is_so =
    let (k, t, lt, at, same) = Any-from_list_any (λ t. bytes_eq t key) texts is_so in
    (k, lt, subst (λ u. get_or texts k u ≡ u) ((bytes_eq-Decides t key).0 same) at)

pub found_back : (key : Text) (texts : List Text) → Contains texts key → list_any (λ t. bytes_eq t key) texts ≡ true
found_back key texts (k, lt, at) =
    list_any-from_Any (λ t. bytes_eq t key) texts (k, key, lt, at, (bytes_eq-Decides key key).1 refl)

module _ (all texts : List Text) (key : Text) (are : AreDistinctOf all texts) where
  -- a text that is there
  kept : Contains texts key → AreDistinctOf (all ++ key ∷ []) texts
  kept there = (
    are.0,
    λ text. (
      λ is. Contains-append_left all (key ∷ []) text ((are.1 text).0 is),
      λ is. elim (Contains-push_cases all key text is) [
        | inl before ↦ (are.1 text).1 before
        | inr same ↦ subst (λ t. Contains texts t) same there
      ],
    ),
  )

  -- a text that is not there
  pushed : ¬ Contains texts key → AreDistinctOf (all ++ key ∷ []) (texts ++ key ∷ [])
  pushed absent = (
    all_pairs_push (λ s t. s ≢ t) texts key are.0 (λ k d lt same. absent (subst (λ t. Contains texts t) same (Contains-get_or texts k d lt))),
    λ text. (
      λ is. elim (Contains-push_cases texts key text is) [
        | inl before ↦ Contains-append_left all (key ∷ []) text ((are.1 text).0 before)
        | inr same ↦ subst (λ t. Contains (all ++ key ∷ []) t) same (Contains-push all key)
      ],
      λ is. elim (Contains-push_cases all key text is) [
        | inl before ↦ Contains-append_left texts (key ∷ []) text ((are.1 text).1 before)
        | inr same ↦ subst (λ t. Contains (texts ++ key ∷ []) t) same (Contains-push texts key)
      ],
    ),
  )

-- the answer of a test says whether the text is there
pub key_kept : {A : Type 0} (f : A → Text) (key : Text) (keys : List A) (all : List Text) → AreDistinctOf all (map f keys)
    → list_any (λ k. bytes_eq (f k) key) keys ≡ true → AreDistinctOf (all ++ key ∷ []) (map f keys)
key_kept f key keys all are is_so = kept all (map f keys) key are (found key (map f keys) (sym (any_mapped f key keys) ∙ is_so))

pub key_pushed : {A : Type 0} (f : A → Text) (key : Text) (keys : List A) (all : List Text) → AreDistinctOf all (map f keys)
    → list_any (λ k. bytes_eq (f k) key) keys ≡ false → AreDistinctOf (all ++ key ∷ []) (map f keys ++ key ∷ [])
key_pushed f key keys all are is_not =
    pushed all (map f keys) key are
    (λ there. false≢true (sym is_not ∙ (any_mapped f key keys ∙ found_back key (map f keys) there)))

pub none_distinct : AreDistinctOf [] []
none_distinct = (λ i j d before lt. absurd (omega arith), λ text. (λ is. is, λ is. is))
