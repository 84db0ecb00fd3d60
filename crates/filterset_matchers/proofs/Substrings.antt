-- Where a text stands in another.
use Rattle.std.proofs.Common.{◌≡◌, ◌↔◌, ◌+◌, ◌-◌, ◌<◌, ◌≤◌, ◌^◌, ◌%◌, ℕ, List, ◌++◌, Bool, true, false, cond, map, get_or, bit_and, length, take, drop, replicate, refl, ap, sym, ◌∙◌, arith, w8, w64, ⊎_elim, eqb, eqb-true, eq-eqb}
use Rattle.std.specs.Int.{bit_at, leading_zeros, trailing_zeros}
use Rattle.std.specs.Simd.Lanes.{zip2, mask_l, top}
use Rattle.std.proofs.Math.Seq.{take-append_seam, drop-append_seam}
use Rattle.std.proofs.lemmas.List.{get_or-map, get_or-take, get_or-drop, take-append-drop, length-append}
use Rattle.std.proofs.lemmas.Nat.Bits.{bit_at_above, bit_at_and, bit_at-trailing_zeros, bit_at-zero}
use Rattle.std.proofs.lemmas.{Nat.leading_length, Bool.cases_lt, Simd.bitmask_splat, Simd.bit_mask_l}
use Rattle.std.specs.Str.Iter.{HasSubslice}
use mir.Val.{bits, hbits}
pub use Rattle.std.proofs.lemmas.List.{nil_from_length as empty_of}
use Rattle.filterset_matchers.specs.Substring.{StandsAt}

tells : (b : Bool) → (cond {A = ℕ} b 1 0 ≡ 1) ↔ (b ≡ true)
tells true = (λ h. refl, λ h. refl)
tells false = (λ h. cc, λ h. cc)

-- bit k of the comparison of 16 bytes with one tells whether byte k is that one
pub bit_of_equal : (v : List ℕ) (y k : ℕ) → length v ≡ 16 → k < 16
    → (bit_at (mask_l (map (top (hbits w8)) (zip2 (λ a b. cond (eqb a b) (2 ^ bits w8 - 1) 0) v (replicate 16 y))) % 2 ^ 64) k ≡ 1) ↔ (get_or v k 0 ≡ y)
bit_of_equal v y k long small =
    let p = λ (x : ℕ). eqb x y in
    let e : bit_at (mask_l (map (top (hbits w8)) (zip2 (λ a b. cond (eqb a b) (2 ^ bits w8 - 1) 0) v (replicate 16 y))) % 2 ^ 64) k ≡ cond (p (get_or v k 0)) 1 0 =
    ap (λ n. bit_at n k) (bitmask_splat w8 eqb v 16 y long (omega arith)) ∙ bit_mask_l (map p v) k ∙ ap (λ b. cond b 1 0) (get_or-map p v k 0 false (omega arith)) in
    let z = tells (p (get_or v k 0)) in
    (λ h. eqb-true _ _ (z.0 (sym e ∙ h)), λ h. e ∙ z.1 (eq-eqb _ _ h))

-- a byte of a text where it stands
pub byte_of : (text needle : List ℕ) (position k : ℕ) → StandsAt text needle position → k < length needle → get_or text (position + k) 0 ≡ get_or needle k 0
byte_of text needle position k stands within =
    sym (get_or-take (length needle) (drop position text) k 0 within ∙ get_or-drop position text k 0) ∙ ap (λ xs. get_or xs k 0) stands

-- a text stands somewhere
pub stands_somewhere : (text needle : List ℕ) (k : ℕ) → StandsAt text needle k → HasSubslice text needle
stands_somewhere text needle k stands =
    (take k text, drop (length needle) (drop k text), sym (take-append-drop k text) ∙ ap (λ xs. take k text ++ xs) (sym (take-append-drop (length needle) (drop k text)) ∙ ap (λ xs. xs ++ drop (length needle) (drop k text)) stands))

pub somewhere_stands : (text needle : List ℕ) → HasSubslice text needle → (k : ℕ) × (k + length needle ≤ length text) × StandsAt text needle k
somewhere_stands text needle (a, b, e) =
    let long : length text ≡ length a + (length needle + length b) = rw (e, length-append, length-append) refl in
    (length a, omega arith, rw (e, drop-append_seam) (take-append_seam needle b))

-- a bit that is set stands between the lowest and the highest
pub between_zeros : (n j : ℕ) → n < 2 ^ 64 → bit_at n j ≡ 1 → (trailing_zeros w64 n ≤ j) × (j < 64 - leading_zeros w64 n)
between_zeros n j small set =
    let some : 0 < n = ⊎_elim (λ p. p) (λ q. let none : n ≡ 0 = omega arith in absurd (omega (arith, set, ap (λ m. bit_at m j) none, bit_at-zero j))) (cases_lt 0 n) in
    let lowest = bit_at-trailing_zeros w64 n some small in
    let top = leading_length 64 n small in (
      ⊎_elim (λ before. absurd (omega (arith, lowest.2 j before, set))) (λ later. later) (cases_lt j (trailing_zeros w64 n)),
      ⊎_elim (λ before. omega (arith, top.1)) (λ above. absurd (omega (arith, bit_at_above n top.0 j top.2 above, set))) (cases_lt j top.0),
    )

-- where the needle stands among 16 positions, its first and its last byte are found
pub bit_of_both : (text needle : List ℕ) (to k begins ends : ℕ) → 0 < length needle → 16 ≤ to → to + length needle ≤ length text + 1 →
    k < to → to ≤ k + 16 → StandsAt text needle k →
    ((j : ℕ) → j < 16 → (bit_at begins j ≡ 1) ↔ (get_or (take (length text - (to - 16)) (drop (to - 16) text)) j 0 ≡ get_or needle 0 0)) →
    ((j : ℕ) → j < 16 → (bit_at ends j ≡ 1) ↔ (get_or (take (length text - (to - 16 + (length needle - 1))) (drop (to - 16 + (length needle - 1)) text)) j 0 ≡ get_or needle (length needle - 1) 0)) →
    bit_at (bit_and begins ends) (k + 16 - to) ≡ 1
bit_of_both text needle to k begins ends some long within below near stands first last =
    let j = k + 16 - to in
    let final = length needle - 1 in
    let one : get_or text (to - 16 + j) 0 ≡ get_or needle 0 0 = ap (λ p. get_or text p 0) (omega arith) ∙ byte_of text needle k 0 stands (omega arith) in
    let other : get_or text (to - 16 + final + j) 0 ≡ get_or needle final 0 = ap (λ p. get_or text p 0) (omega arith) ∙ byte_of text needle k final stands (omega arith) in
    let begun = (first j (omega arith)).1 (get_or-take (length text - (to - 16)) (drop (to - 16) text) j 0 (omega arith) ∙ get_or-drop (to - 16) text j 0 ∙ one) in
    let ended = (last j (omega arith)).1 (get_or-take (length text - (to - 16 + final)) (drop (to - 16 + final) text) j 0 (omega arith) ∙ get_or-drop (to - 16 + final) text j 0 ∙ other) in
    omega (arith, bit_at_and begins ends j, begun, ended)
