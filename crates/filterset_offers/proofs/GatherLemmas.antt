-- Names that are gathered, one by one.
use Rattle.std.proofs.Common.{◌≡◌, ◌<◌, ◌+◌, ◌&&◌, ◌||◌, ◌⊎◌, ⊎_elim, inl, inr, ℕ, Bool, Bor, true, false, not, List, [], ◌∷◌, ◌++◌, get_or, length, length-append, map, take, refl, sym, ◌∙◌, ap, subst, arith}
use Rattle.std.specs.Prelude.{Contains, IsTrue, nat_lt}
use Rattle.std.specs.{List.IsDistinct, List.list_any, Str.bytes_eq, Cmp.Lexicographic.nat_list_eq_equiv}
use Rattle.std.proofs.lemmas.{Bool.false≢true, Bool.Decides.nat_tests, List.length-map, List.map-append, List.map_more}
use Rattle.std.proofs.lemmas.List.Elements.{Contains-append_left, Contains-push, Contains-push_cases}
use Rattle.std.proofs.lemmas.{Map.Keys.IsDistinct-push, Map.Views.Contains-from_any, Slice.Eq.bytes_eq-Decides}
use Rattle.filterset_display.specs.Positions.{Text}
use Rattle.filterset_offers.specs.Names.{IsGathered, limit, may_offer}

abbrev text : Bor Text → Text
text n = n.now

below_limit : (n : ℕ) → nat_lt n limit ≡ true → n < limit
below_limit n e = grind (arith, nat_tests)

not_below : (n : ℕ) → nat_lt n limit ≡ false → n < limit → ⊥
not_below n e lt = grind (arith, nat_tests)

-- a test of what the names are
any_text : (name : Text) (seen : List (Bor Text)) → list_any (bytes_eq name) (map text seen) ≡ list_any (λ n. bytes_eq name n.now) seen
any_text name [] = refl
any_text name (n ∷ seen) = ap (λ b. bytes_eq name n.now || b) (any_text name seen)

module _ (names : List Text) (typed : Text) (seen : List (Bor Text)) (name : Text) (is : IsGathered names typed (map text seen)) where
  abbrev found : List Text
  found = map text seen

  -- what is there stays
  kept : (x : Text) → Contains found x → Contains (names ++ name ∷ []) x × IsTrue (may_offer typed x)
  kept x c = let s = is.sound x c in (Contains-append_left names (name ∷ []) x s.0, s.1)

  -- the name is left out, because it is not missing
  same : (IsTrue (may_offer typed name) → length found < limit → Contains found name) → IsGathered (names ++ name ∷ []) typed found
  same has = record {
    distinct = is.distinct;
    few = is.few;
    sound = kept;
    complete = λ few x c ok. ⊎_elim (λ old. is.complete few x old ok)
        (λ new. subst (Contains found) new (has (subst (λ (y : Text). IsTrue (may_offer typed y)) (sym new) ok) few)) (Contains-push_cases names name x c);
  }

  -- the name is added
  added : IsTrue (may_offer typed name) → length found < limit → list_any (bytes_eq name) found ≡ false
      → IsGathered (names ++ name ∷ []) typed (found ++ name ∷ [])
  added ok few none = record {
    distinct = IsDistinct-push nat_list_eq_equiv found name is.distinct none;
    few = rw (length-append found (name ∷ [])) (omega (arith, few));
    sound = λ x c. ⊎_elim (λ old. kept x old)
        (λ new. (subst (Contains (names ++ name ∷ [])) new (Contains-push names name), subst (λ (y : Text). IsTrue (may_offer typed y)) new ok))
        (Contains-push_cases found name x c);
    complete = λ less x c ok'. ⊎_elim (λ old. Contains-append_left found (name ∷ []) x (is.complete few x old ok'))
        (λ new. subst (Contains (found ++ name ∷ [])) new (Contains-push found name)) (Contains-push_cases names name x c);
  }

  fits : nat_lt (length seen) limit ≡ true → length found < limit
  fits e = omega (arith, below_limit (length seen) e, length-map seen text)

  full : nat_lt (length seen) limit ≡ false → length found < limit → ⊥
  full e less = not_below (length seen) e (omega (arith, less, length-map seen text))

  by_true : (m l h : Bool) → may_offer typed name ≡ m → nat_lt (length seen) limit ≡ l → list_any (λ n. bytes_eq name n.now) seen ≡ h
      → (m && l && not h) ≡ true → IsGathered (names ++ name ∷ []) typed (found ++ name ∷ [])
  by_true true true false em el eh e = added em (fits el) (any_text name seen ∙ eh)
  by_true true true true em el eh e = absurd (false≢true e)
  by_true true false h em el eh e = absurd (false≢true e)
  by_true false l h em el eh e = absurd (false≢true e)

  by_false : (m l h : Bool) → may_offer typed name ≡ m → nat_lt (length seen) limit ≡ l → list_any (λ n. bytes_eq name n.now) seen ≡ h
      → (m && l && not h) ≡ false → IsGathered (names ++ name ∷ []) typed found
  by_false true true false em el eh e = absurd (false≢true (sym e))
  by_false true true true em el eh e = same (λ ok few. Contains-from_any (λ a b same. (bytes_eq-Decides a b).0 same) name found (any_text name seen ∙ eh))
  by_false true false h em el eh e = same (λ ok few. absurd (full el few))
  by_false false l h em el eh e = same (λ ok few. absurd (false≢true (sym em ∙ ok)))

  abbrev wanted : Bool
  wanted = may_offer typed name && nat_lt (length seen) limit && not (list_any (λ n. bytes_eq name n.now) seen)

  -- one more name is wanted or not
  gathers-wanted : wanted ≡ true → IsGathered (names ++ name ∷ []) typed (found ++ name ∷ [])
  gathers-wanted e = by_true (may_offer typed name) (nat_lt (length seen) limit) (list_any (λ n. bytes_eq name n.now) seen) refl refl refl e

  gathers-unwanted : wanted ≡ false → IsGathered (names ++ name ∷ []) typed found
  gathers-unwanted e = by_false (may_offer typed name) (nat_lt (length seen) limit) (list_any (λ n. bytes_eq name n.now) seen) refl refl refl e

-- one more of some names is wanted or not
pub gathers-next : (all : List (Bor Text)) (i : ℕ) (d : Bor Text) (typed : Text) (seen new : List (Bor Text)) (is_wanted : Bool)
    → is_wanted ≡ (may_offer typed (get_or all i d).now && nat_lt (length seen) limit && not (list_any (λ n. bytes_eq (get_or all i d).now n.now) seen))
    → i < length all → IsGathered (map text (take i all)) typed (map text seen)
    → ((is_wanted ≡ true) × (new ≡ seen ++ get_or all i d ∷ [])) ⊎ ((is_wanted ≡ false) × (new ≡ seen))
    → IsGathered (map text (take (i + 1) all)) typed (map text new)
gathers-next all i d typed seen new is_wanted asked lt is (inl (wants, pushed)) =
    let texts = ap (map text) pushed ∙ map-append text seen (get_or all i d ∷ []) in
    subst (λ (ns : List Text). IsGathered ns typed (map text new)) (sym (map_more text all i d lt))
    (subst (λ (fs : List Text). IsGathered (map text (take i all) ++ (get_or all i d).now ∷ []) typed fs) (sym texts)
    (gathers-wanted (map text (take i all)) typed seen (get_or all i d).now is (sym asked ∙ wants)))
gathers-next all i d typed seen new is_wanted asked lt is (inr (other, same)) =
    subst (λ (ns : List Text). IsGathered ns typed (map text new)) (sym (map_more text all i d lt))
    (subst (λ (fs : List (Bor Text)). IsGathered (map text (take i all) ++ (get_or all i d).now ∷ []) typed (map text fs)) (sym same)
    (gathers-unwanted (map text (take i all)) typed seen (get_or all i d).now is (sym asked ∙ other)))

-- nothing is gathered of no names
pub gathers-none : (typed : Text) → IsGathered [] typed []
unfolding IsDistinct
gathers-none typed = record {
  distinct = search (arith);
  few = omega arith;
  sound = λ name c. absurd (omega (arith, c.1));
  complete = λ few name c ok. absurd (omega (arith, c.1));
}
