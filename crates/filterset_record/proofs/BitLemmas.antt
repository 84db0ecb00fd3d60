-- Bits of words.
use Rattle.std.proofs.Common.{◌≡◌, ℕ, zero, suc, ◌+◌, ◌<◌, ◌/◌, ◌%◌, ◌^◌, ◌-◌, min, max, Bool, true, false, not, ◌||◌, ◌&&◌, ◌==◌, List, length, get_or, slice_index, slice_set, set, bit_and, bit_or, bit_xor, refl, sym, ap, ◌∙◌, arith, inl, inr, get_or-set_other, get_or-set_same, ◌≤◌, w64, add-zero, zero-add}
use Rattle.std.proofs.Math.Bool.{or_comm}
use Rattle.std.proofs.Math.Nat.{div-add-mod, div-div-eq-div-mul, div-one, pow-succ', mod-eq_of_lt}
use Rattle.std.proofs.lemmas.Bool.{cases_eq, cases_lt, eq-eqb, ne_eqb, Decides.nat_tests}
use Rattle.std.proofs.lemmas.Nat.{and_mask}
use Rattle.std.proofs.lemmas.Nat.Bits.{bit_at_and, bit_at_or, bit_at_xor, bit_at-pow_same, bit_at-pow_other, bit_at-lt, bit_at-suc, bit_at-trailing_ones, bit_at-trailing_zeros, bit_at-zero, bit_at_ones, shr_and_one}
use Rattle.std.specs.{Bool.beq, Int.bit_at, Int.trailing_ones, Int.trailing_zeros, Int.Bits.xor_add_and}
use Rattle.filterset_record.specs.Bits.{bit_of}

min_bits : (a b : ℕ) → a < 2 → b < 2 → (min a b == 1) ≡ (a == 1 && b == 1)
min_bits a b h k = grind (arith, nat_tests)

max_bits : (a b : ℕ) → a < 2 → b < 2 → (max a b == 1) ≡ (a == 1 || b == 1)
max_bits a b h k = grind (arith, nat_tests)

xor_bits : (a b : ℕ) → a < 2 → b < 2 → ((a + b) % 2 == 1) ≡ not (beq (a == 1) (b == 1))
xor_bits a b h k = grind (arith, nat_tests)

pub and_bit : (a b i : ℕ) → (bit_at (bit_and a b) i == 1) ≡ (bit_at a i == 1 && bit_at b i == 1)
and_bit a b i = ap (λ n. n == 1) (bit_at_and a b i) ∙ min_bits (bit_at a i) (bit_at b i) (bit_at-lt a i) (bit_at-lt b i)

pub or_bit : (a b i : ℕ) → (bit_at (bit_or a b) i == 1) ≡ (bit_at a i == 1 || bit_at b i == 1)
or_bit a b i = ap (λ n. n == 1) (bit_at_or a b i) ∙ max_bits (bit_at a i) (bit_at b i) (bit_at-lt a i) (bit_at-lt b i)

pub xor_bit : (a b i : ℕ) → (bit_at (bit_xor a b) i == 1) ≡ not (beq (bit_at a i == 1) (bit_at b i == 1))
xor_bit a b i = ap (λ n. n == 1) (bit_at_xor a b i) ∙ xor_bits (bit_at a i) (bit_at b i) (bit_at-lt a i) (bit_at-lt b i)

-- ---- a bit that is set

pow_bit : (k i : ℕ) → (bit_at (2 ^ k) i == 1) ≡ (i == k)
pow_bit k i = elim (cases_eq i k) [
  | inl same ↦ rw (same, bit_at-pow_same k, eq-eqb k k refl) refl
  | inr other ↦ rw (bit_at-pow_other k i other, ne_eqb i k other) refl
]

-- two positions in one word are the same where they are at the same place of it
one_word : (i p : ℕ) → i / 64 ≡ p / 64 → (i % 64 == p % 64) ≡ (i == p)
one_word i p here = grind (arith, nat_tests)

pub set_bit : (words : List ℕ) (p i : ℕ) → p / 64 < length words
    → bit_of (slice_set words (p / 64) (bit_or (slice_index words (p / 64)) (2 ^ (p % 64)))) i ≡ ((i == p) || bit_of words i)
set_bit words p i within =
    let old = slice_index words (p / 64) in
    let new = bit_or old (2 ^ (p % 64)) in
    elim (cases_eq (i / 64) (p / 64)) [
      | inl here ↦
          let written : get_or (set words (p / 64) new) (i / 64) 0 ≡ new =
          ap (λ k. get_or (set words (p / 64) new) k 0) here ∙ get_or-set_same words (p / 64) new 0 within in
          let was : get_or words (i / 64) 0 ≡ old = ap (λ k. get_or words k 0) here in
          ap (λ w. bit_at w (i % 64) == 1) written
          ∙ or_bit old (2 ^ (p % 64)) (i % 64)
          ∙ ap (λ b. (bit_at old (i % 64) == 1) || b) (pow_bit (p % 64) (i % 64) ∙ one_word i p here)
          ∙ or_comm (bit_at old (i % 64) == 1) (i == p)
          ∙ ap (λ w. (i == p) || (bit_at w (i % 64) == 1)) (sym was)
      | inr there ↦
          let differ : i ≡ p → ⊥ = λ e. there (ap (λ n. n / 64) e) in
          rw (get_or-set_other words (p / 64) (i / 64) new 0 there, ne_eqb i p differ) refl
    ]

-- ---- bits that are turned

with_true : (b : Bool) → not (beq b true) ≡ not b
with_true true = refl
with_true false = refl

pub turned_bit : (word i : ℕ) → word < 18446744073709551616 → i < 64 → (bit_at (18446744073709551615 - word) i == 1) ≡ not (bit_at word i == 1)
turned_bit word i h within =
    let ones : bit_at (2 ^ 64 - 1) i ≡ 1 = bit_at_ones 64 i within in
    let same : bit_and word (2 ^ 64 - 1) ≡ word = and_mask word 64 ∙ mod-eq_of_lt h in
    let turned : bit_xor word (2 ^ 64 - 1) ≡ 18446744073709551615 - word = omega (arith, xor_add_and word (2 ^ 64 - 1), same, h) in
    ap (λ n. bit_at n i == 1) (sym turned) ∙ xor_bit word (2 ^ 64 - 1) i
    ∙ ap (λ n. not (beq (bit_at word i == 1) (n == 1))) ones ∙ with_true (bit_at word i == 1)

-- ---- runs of bits

pub lowest_bit : (n : ℕ) → bit_at n 0 ≡ bit_and n 1
lowest_bit n = sym (shr_and_one n 0) ∙ ap (λ m. bit_and m 1) (div-one n)

-- the lowest bit is not set
pub lowest_unset : (n : ℕ) → (bit_and n 1 ≡ 1 → ⊥) → bit_at n 0 ≡ 0
lowest_unset n unset =
    let not_one : bit_at n 0 ≡ 1 → ⊥ = λ one. unset (sym (lowest_bit n) ∙ one) in omega (arith, bit_at-lt n 0)

-- the bits of a word that is shifted
pub shifted_bit : (n a i : ℕ) → bit_at (n / 2 ^ a) i ≡ bit_at n (a + i)
shifted_bit n zero i = ap (λ m. bit_at m i) (div-one n) ∙ ap (bit_at n) (sym (zero-add i))
shifted_bit n (suc a) i =
    let parted : n / 2 ^ suc a ≡ n / 2 / 2 ^ a = ap (λ m. n / m) (pow-succ' 2 a) ∙ sym (div-div-eq-div-mul n 2 (2 ^ a)) in
    let moved : suc (a + i) ≡ suc a + i = omega arith in
    ap (λ m. bit_at m i) parted ∙ shifted_bit (n / 2) a i ∙ sym (bit_at-suc n (a + i)) ∙ ap (bit_at n) moved

pub zeros_run : (n : ℕ) → n < 2 ^ 64 → bit_at n 0 ≡ 0 → (0 < trailing_zeros w64 n) × ((i : ℕ) → i < trailing_zeros w64 n → bit_at n i ≡ 0)
unfolding lib.Count.count_trailing_zeros
zeros_run n small lowest = elim (cases_lt 0 n) [
  | inl some ↦
      let first = bit_at-trailing_zeros w64 n some small in
      let later : 0 < trailing_zeros w64 n = elim (cases_lt 0 (trailing_zeros w64 n)) [
        | inl later ↦ later
        | inr none ↦
            let zero_place : trailing_zeros w64 n ≡ 0 = omega (arith, none) in
            absurd (omega (arith, first.1, ap (bit_at n) zero_place, lowest))
      ] in
      (later, first.2)
  | inr none ↦
      let is_zero : n ≡ 0 = omega (arith, none) in
      let all : trailing_zeros w64 0 ≡ 64 = refl in
      (omega (arith, ap (trailing_zeros w64) is_zero, all), λ i below. ap (λ m. bit_at m i) is_zero ∙ bit_at-zero i)
]

pub ones_run : (n : ℕ) → n < 2 ^ 64 → bit_at n 0 ≡ 1 → (0 < trailing_ones w64 n) × ((i : ℕ) → i < trailing_ones w64 n → bit_at n i ≡ 1)
unfolding lib.Count.count_trailing_zeros
ones_run n small lowest = elim (cases_lt (n + 1) (2 ^ 64)) [
  | inl some ↦
      let first = bit_at-trailing_ones w64 n some in
      let later : 0 < trailing_ones w64 n = elim (cases_lt 0 (trailing_ones w64 n)) [
        | inl later ↦ later
        | inr none ↦
            let zero_place : trailing_ones w64 n ≡ 0 = omega (arith, none) in
            absurd (omega (arith, first.1, ap (bit_at n) zero_place, lowest))
      ] in
      (later, first.2)
  | inr none ↦
      let is_max : n ≡ 2 ^ 64 - 1 = omega (arith, none, small) in
      let all : trailing_ones w64 (2 ^ 64 - 1) ≡ 64 = refl in
      let long : trailing_ones w64 n ≡ 64 = ap (trailing_ones w64) is_max ∙ all in
      (omega (arith, long), λ i below. ap (λ m. bit_at m i) is_max ∙ bit_at_ones 64 i (omega (arith, below, long)))
]

-- the bits of a word from a position on
pub bits_of_run : (words : List ℕ) (p i word count : ℕ) → word ≡ slice_index words (p / 64) → count ≤ 64 - p % 64
    → ((j : ℕ) → j < count → (bit_at (word / 2 ^ (p % 64)) j == 1) ≡ (bit_at (word / 2 ^ (p % 64)) 0 == 1))
    → p ≤ i → i < p + count → bit_of words i ≡ bit_of words p
bits_of_run words p i word count is short same low high =
    let j = i - p in
    let parts = div-add-mod p 64 in
    let here : i / 64 ≡ p / 64 = omega (arith, parts, short, low, high, div-add-mod i 64) in
    let place : i % 64 ≡ p % 64 + j = omega (arith, parts, here, low, div-add-mod i 64) in
    let moved : (bit_at word (p % 64 + j) == 1) ≡ (bit_at word (p % 64 + 0) == 1) =
    ap (λ b. b == 1) (sym (shifted_bit word (p % 64) j)) ∙ same j (omega (arith, low, high)) ∙ ap (λ b. b == 1) (shifted_bit word (p % 64) 0) in
    let other : bit_of words i ≡ (bit_at word (p % 64 + j) == 1) = ap (λ k. bit_at (slice_index words k) (i % 64) == 1) here ∙ ap (λ w. bit_at w (i % 64) == 1) (sym is) ∙ ap (λ k. bit_at word k == 1) place in
    let own : (bit_at word (p % 64 + 0) == 1) ≡ bit_of words p = ap (λ k. bit_at word k == 1) (add-zero (p % 64)) ∙ ap (λ w. bit_at w (p % 64) == 1) is in
    other ∙ moved ∙ own
