-- Sets of positions as words.
use Rattle.std.proofs.Common.{◌≡◌, ◌↔◌, ◌≢◌, ℕ, zero, suc, ◌+◌, ◌-◌, ◌*◌, ◌/◌, ◌%◌, ◌<◌, ◌⊎◌, inl, inr, List, [], ◌∷◌, Bool, true, false, length, get_or, replicate, eqb, ap, sym, subst, ◌∙◌, arith, refl, eqb-true, eq-eqb, ⊎_elim, max, bit_or}
use Rattle.std.proofs.{Math.ListN.set, lemmas.Bool.cases_lt, lemmas.Bool.cases_eq}
use Rattle.std.proofs.lemmas.List.{get_or-set_same, get_or-set_other, get_or_past}
use Rattle.std.proofs.lemmas.List.FromFn.{length-map-range_with_len, get_or-map-range_with_len, fill_by_all}
use Rattle.std.proofs.lemmas.Nat.Bits.{bit_at-zero, bit_at-lt, bit_at_or, bit_at-pow_same, bit_at-pow_other}
use Rattle.std.proofs.lemmas.Simd.{length-replicate}
use Rattle.std.specs.Int.{bit_at}
pub use Rattle.std.proofs.lemmas.List.{nil_from_length as no_words}
use Rattle.filterset_glob.specs.{Positions.Holds, Words.Has, Words.positions_of}

-- ---- the words

pub Has-first : (w : ℕ) (ws : List ℕ) (i : ℕ) → i < 64 → Has (w ∷ ws) i ↔ (bit_at w i ≡ 1)
unfolding Has
Has-first w ws i l =
    let at : i / 64 ≡ 0 = omega arith in
    let bit : i % 64 ≡ i = omega arith in
    let e : bit_at (get_or (w ∷ ws) (i / 64) 0) (i % 64) ≡ bit_at w i = ap (λ k. bit_at (get_or (w ∷ ws) k 0) (i % 64)) at ∙ ap (bit_at w) bit in
    (λ h. sym e ∙ h, λ h. e ∙ h)

pub Has-later : (w : ℕ) (ws : List ℕ) (i j : ℕ) → i ≡ 64 + j → Has (w ∷ ws) i ↔ Has ws j
unfolding Has
Has-later w ws i j is =
    let at : i / 64 ≡ suc (j / 64) = omega arith in
    let bit : i % 64 ≡ j % 64 = omega arith in
    let e : bit_at (get_or (w ∷ ws) (i / 64) 0) (i % 64) ≡ bit_at (get_or ws (j / 64) 0) (j % 64) = ap (λ k. bit_at (get_or (w ∷ ws) k 0) (i % 64)) at ∙ ap (bit_at (get_or ws (j / 64) 0)) bit in
    (λ h. sym e ∙ h, λ h. e ∙ h)

-- a position of the word at k
pub Has-word : (ws : List ℕ) (k i : ℕ) → i / 64 ≡ k → Has ws i ↔ (bit_at (get_or ws k 0) (i % 64) ≡ 1)
unfolding Has
Has-word ws k i is =
    let e : bit_at (get_or ws (i / 64) 0) (i % 64) ≡ bit_at (get_or ws k 0) (i % 64) = ap (λ k. bit_at (get_or ws k 0) (i % 64)) is in
    (λ h. sym e ∙ h, λ h. e ∙ h)

-- another word was written
pub Has-set_other : (ws : List ℕ) (k v i : ℕ) → i / 64 ≢ k → Has (set ws k v) i ↔ Has ws i
unfolding Has
Has-set_other ws k v i ne =
    let e = ap (λ w. bit_at w (i % 64)) (get_or-set_other ws k (i / 64) v 0 ne) in
    (λ h. sym e ∙ h, λ h. e ∙ h)

-- this word was written
pub Has-set_same : (ws : List ℕ) (k v i : ℕ) → k < length ws → i / 64 ≡ k → Has (set ws k v) i ↔ (bit_at v (i % 64) ≡ 1)
unfolding Has
Has-set_same ws k v i within is =
    let e : bit_at (get_or (set ws k v) (i / 64) 0) (i % 64) ≡ bit_at v (i % 64) = ap (λ j. bit_at (get_or (set ws k v) j 0) (i % 64)) is ∙ ap (λ w. bit_at w (i % 64)) (get_or-set_same ws k v 0 within) in
    (λ h. sym e ∙ h, λ h. e ∙ h)

Has-in : (ws : List ℕ) (i : ℕ) → Has ws i → i / 64 < length ws
unfolding Has
Has-in ws i h =
    ⊎_elim (λ l. l) (λ le.
    let e : bit_at (get_or ws (i / 64) 0) (i % 64) ≡ 0 = ap (λ w. bit_at w (i % 64)) (get_or_past ws (i / 64) 0 le) ∙ bit_at-zero (i % 64) in
    absurd (omega arith)) (cases_lt (i / 64) (length ws))

-- a position that the words have is in some word
pub Has-within : (ws : List ℕ) (i : ℕ) → Has ws i → i < 64 * length ws
Has-within ws i h = let n = Has-in ws i h in omega arith

-- words joined one by one
pub Has-joined : (new old others : List ℕ) → length new ≡ length old → length old ≡ length others → ((k : ℕ) → k < length old → get_or new k 0 ≡ bit_or (get_or old k 0) (get_or others k 0)) →
    (i : ℕ) → (Has new i → Has old i ⊎ Has others i) × (Has old i → Has new i) × (Has others i → Has new i)
unfolding Has
Has-joined new old others long longs each i =
    let is : i / 64 < length old → bit_at (get_or new (i / 64) 0) (i % 64) ≡ max (bit_at (get_or old (i / 64) 0) (i % 64)) (bit_at (get_or others (i / 64) 0) (i % 64)) =
    λ l. ap (λ w. bit_at w (i % 64)) (each (i / 64) l) ∙ bit_at_or (get_or old (i / 64) 0) (get_or others (i / 64) 0) (i % 64) in
    let a : ℕ = bit_at (get_or old (i / 64) 0) (i % 64) in
    let b : ℕ = bit_at (get_or others (i / 64) 0) (i % 64) in
    let small_a : a < 2 = bit_at-lt _ _ in
    let small_b : b < 2 = bit_at-lt _ _ in (
      λ h. let n = Has-in new i h in ⊎_elim (λ e. inl e) (λ ne. inr (omega (arith, is (omega arith)))) (cases_eq a 1),
      λ h. let n = Has-in old i h in omega (arith, is n),
      λ h. let n = Has-in others i h in omega (arith, is (omega arith)),
    )

-- ---- the truth values

pub length-positions_of : (count : ℕ) (ws : List ℕ) → length (positions_of count ws) ≡ count
unfolding positions_of
length-positions_of count ws = length-map-range_with_len _ 0 count

pub Holds-within : (positions : List Bool) (i : ℕ) → Holds positions i → i < length positions
Holds-within positions i h = ⊎_elim (λ l. l) (λ le. let out : get_or positions i false ≡ false = get_or_past positions i false le in cc) (cases_lt i (length positions))

pub Has-from_Holds : (count : ℕ) (ws : List ℕ) (i : ℕ) → Holds (positions_of count ws) i → (i < count) × Has ws i
unfolding Has positions_of
Has-from_Holds count ws i h =
    let within : i < count = subst (λ n. i < n) (length-positions_of count ws) (Holds-within (positions_of count ws) i h) in
    (within, eqb-true _ 1 (sym (get_or-map-range_with_len (λ i. eqb (bit_at (get_or ws (i / 64) 0) (i % 64)) 1) 0 count i i false within (omega arith)) ∙ h))

pub Holds-from_Has : (count : ℕ) (ws : List ℕ) (i : ℕ) → i < count → Has ws i → Holds (positions_of count ws) i
unfolding Has positions_of
Holds-from_Has count ws i within h =
    get_or-map-range_with_len (λ i. eqb (bit_at (get_or ws (i / 64) 0) (i % 64)) 1) 0 count i i false within (omega arith) ∙ eq-eqb _ 1 h

-- the words of a list of truth values
pub positions_of-is : (count : ℕ) (ws : List ℕ) (positions : List Bool) → length positions ≡ count → ((i : ℕ) → i < count → (Holds positions i → Has ws i) × (Has ws i → Holds positions i)) → positions_of count ws ≡ positions
unfolding Has positions_of
positions_of-is count ws positions long same =
    sym (fill_by_all (λ i. eqb (bit_at (get_or ws (i / 64) 0) (i % 64)) 1) positions count false long
    (λ i within. elim (get_or positions i false) as (λ b. get_or positions i false ≡ b → b ≡ eqb (bit_at (get_or ws (i / 64) 0) (i % 64)) 1) [
      | true ↦ λ e. sym (eq-eqb _ 1 ((same i within).0 e))
      | false ↦ λ e. elim (eqb (bit_at (get_or ws (i / 64) 0) (i % 64)) 1) as (λ b. eqb (bit_at (get_or ws (i / 64) 0) (i % 64)) 1 ≡ b → false ≡ b) [
        | true ↦ λ f. absurd (let g : get_or positions i false ≡ true = (same i within).1 (eqb-true _ 1 f) in cc)
        | false ↦ λ f. refl
      ] refl
    ] refl))

pub none_held : (n i : ℕ) → Holds (replicate n false) i → ⊥
none_held zero i h = cc
none_held (suc n) zero h = cc
none_held (suc n) (suc i) h = none_held n i h

zero_word : (n k : ℕ) → get_or (replicate {A = ℕ} n 0) k 0 ≡ 0
zero_word zero k = refl
zero_word (suc n) zero = refl
zero_word (suc n) (suc k) = zero_word n k

pub none_had : (n i : ℕ) → Has (replicate n 0) i → ⊥
unfolding Has
none_had n i h =
    let e : bit_at (get_or (replicate n 0) (i / 64) 0) (i % 64) ≡ 0 = ap (λ w. bit_at w (i % 64)) (zero_word n (i / 64)) ∙ bit_at-zero (i % 64) in
    omega arith

pub positions_of-none : (count n : ℕ) → positions_of count (0 ∷ replicate n 0) ≡ replicate count false
positions_of-none count n = positions_of-is count (0 ∷ replicate n 0) (replicate count false) (length-replicate count false)
    (λ i within. (λ h. absurd (none_held count i h), λ h. absurd (none_had (suc n) i h)))

pub first_held : (n i : ℕ) → Holds (true ∷ replicate n false) i → i ≡ 0
first_held n zero h = refl
first_held n (suc i) h = absurd (none_held n i h)

first_had : (n i : ℕ) → Has (1 ∷ replicate n 0) i → i ≡ 0
first_had n i h =
    ⊎_elim (λ l.
    let b : bit_at 1 i ≡ 1 = (Has-first 1 (replicate n 0) i l).0 h in
    ⊎_elim (λ e. e) (λ ne. absurd (omega (arith, bit_at-pow_other 0 i ne))) (cases_eq i 0))
    (λ le. absurd (none_had n (i - 64) ((Has-later 1 (replicate n 0) i (i - 64) (omega arith)).0 h))) (cases_lt i 64)

first_position : (n : ℕ) → Has (1 ∷ replicate n 0) 0
first_position n = (Has-first 1 (replicate n 0) 0 (omega arith)).1 (bit_at-pow_same 0)

pub positions_of-start : (last n : ℕ) → positions_of (last + 1) (1 ∷ replicate n 0) ≡ true ∷ replicate last false
positions_of-start last n = positions_of-is (last + 1) (1 ∷ replicate n 0) (true ∷ replicate last false) (omega (arith, length-replicate {A = Bool} last false))
    (λ i within. (λ h. subst (Has (1 ∷ replicate n 0)) (sym (first_held last i h)) (first_position n), λ h. subst (Holds (true ∷ replicate last false)) (sym (first_had n i h)) refl))

-- ---- the first word and the others

pub Has-low : (w : ℕ) (ws : List ℕ) (i : ℕ) → i < 64 → bit_at w i ≡ 1 → Has (w ∷ ws) i
Has-low w ws i l h = (Has-first w ws i l).1 h

pub Has-high : (w : ℕ) (ws : List ℕ) (i j : ℕ) → i ≡ 64 + j → Has ws j → Has (w ∷ ws) i
Has-high w ws i j is h = (Has-later w ws i j is).1 h

pub Has-cases : (w : ℕ) (ws : List ℕ) (i : ℕ) → Has (w ∷ ws) i → ((i < 64) × (bit_at w i ≡ 1)) ⊎ ((j : ℕ) × (i ≡ 64 + j) × Has ws j)
Has-cases w ws i h =
    ⊎_elim (λ l. inl (l, (Has-first w ws i l).0 h)) (λ le.
    let is : i ≡ 64 + (i - 64) = omega arith in
    inr (i - 64, is, (Has-later w ws i (i - 64) is).0 h)) (cases_lt i 64)

-- a set whose words are these
pub opened : (count : ℕ) (ws : List ℕ) (positions : List Bool) → positions_of count ws ≡ positions → (i : ℕ) → (Holds positions i → (i < count) × Has ws i) × (i < count → Has ws i → Holds positions i)
opened count ws positions is i = (
  λ h. Has-from_Holds count ws i (subst (λ p. Holds p i) (sym is) h),
  λ within h. subst (λ p. Holds p i) is (Holds-from_Has count ws i within h),
)

pub long : (count : ℕ) (ws : List ℕ) (positions : List Bool) → positions_of count ws ≡ positions → length positions ≡ count
long count ws positions is = ap length (sym is) ∙ length-positions_of count ws

-- a set that is made of a word and a list of words
pub made : (count w : ℕ) (vs ws : List ℕ) → ws ≡ vs → (i : ℕ) → (Holds (positions_of count (w ∷ ws)) i → (i < count) × Has (w ∷ vs) i) × (i < count → Has (w ∷ vs) i → Holds (positions_of count (w ∷ ws)) i)
made count w vs ws is i = opened count (w ∷ vs) (positions_of count (w ∷ ws)) (ap (λ l. positions_of count (w ∷ l)) (sym is)) i

-- words of no bits have no position
pub none_in : (ws : List ℕ) → ((k : ℕ) → k < length ws → get_or ws k 0 ≡ 0) → (i : ℕ) → ¬ Has ws i
unfolding Has
none_in ws zeroes i h =
    let e : bit_at (get_or ws (i / 64) 0) (i % 64) ≡ 0 = ap (λ w. bit_at w (i % 64)) (zeroes (i / 64) (Has-in ws i h)) ∙ bit_at-zero (i % 64) in
    omega arith

-- ---- sets of one word

-- a set whose words are this one alone
pub word_is : (count w : ℕ) (ws : List ℕ) (positions : List Bool) → positions_of count (w ∷ ws) ≡ positions → length ws ≡ 0 → positions ≡ positions_of (length positions) (w ∷ [])
word_is count w ws positions is none =
    sym is ∙ ap (λ l. positions_of count (w ∷ l)) (no_words ws none) ∙ ap (λ (k : ℕ). positions_of k (w ∷ [])) (sym (long count (w ∷ ws) positions is))

word_has : (count w i : ℕ) → Holds (positions_of count (w ∷ [])) i → (i < count) × (i < 64) × (bit_at w i ≡ 1)
word_has count w i h =
    let z = Has-from_Holds count (w ∷ []) i h in
    ⊎_elim (λ p. (z.0, p.0, p.1)) (λ p. let none : p.0 < 0 = Has-within [] p.0 p.2 in absurd (omega (arith, none))) (Has-cases w [] i z.1)

word_holds : (count w i : ℕ) → i < count → i < 64 → bit_at w i ≡ 1 → Holds (positions_of count (w ∷ [])) i
word_holds count w i within small set = Holds-from_Has count (w ∷ []) i within (Has-low w [] i small set)

-- the word of no bits
pub word_of_none : (count i : ℕ) → ¬ Holds (positions_of count (0 ∷ [])) i
word_of_none count i h = let z = word_has count 0 i h in omega (arith, z.2, bit_at-zero i)

-- two words joined
pub joined_words : (count r w f : ℕ) → ((k : ℕ) → bit_at r k ≡ 1 → (bit_at w k ≡ 1) ⊎ (bit_at f k ≡ 1)) → ((k : ℕ) → bit_at w k ≡ 1 → bit_at r k ≡ 1) → ((k : ℕ) → bit_at f k ≡ 1 → bit_at r k ≡ 1) →
    (i : ℕ) → Holds (positions_of count (r ∷ [])) i ↔ (Holds (positions_of count (w ∷ [])) i ⊎ Holds (positions_of count (f ∷ [])) i)
joined_words count r w f joined kept added i = (
  λ h.
      let z = word_has count r i h in
      ⊎_elim (λ b. inl (word_holds count w i z.0 z.1 b)) (λ b. inr (word_holds count f i z.0 z.1 b)) (joined i z.2),
  λ h. ⊎_elim (λ a. let z = word_has count w i a in word_holds count r i z.0 z.1 (kept i z.2)) (λ a. let z = word_has count f i a in word_holds count r i z.0 z.1 (added i z.2)) h,
)
