use Rattle.std.proofs.Common.{◌≡◌, ℕ, ◌-◌, ◌^◌, ◌≤◌, ap, sym, ◌∙◌, arith, ⊎_elim, inr, w64}
use Rattle.std.specs.Int.{bit_at, trailing_zeros}
use Rattle.std.proofs.lemmas.Bool.{cases_lt}
use Rattle.std.proofs.lemmas.Nat.Bits.{bit_at-trailing_zeros, bit_at_ones, ones_shl, bit_at_mask_inside, bit_at_mask_below}
use Rattle.filterset_glob.proofs.word.fill_up.Goals as goal

pub returns-else-word-eq0-clause-filled : goal.returns-else-word-eq0-clause-filled
returns-else-word-eq0-clause-filled c k h =
    let w = c.args.word in
    let t : ℕ = trailing_zeros w64 w in
    let z = bit_at-trailing_zeros w64 w (omega arith) c.ranges.word.fits in
    let within : t ≤ 64 = omega (arith, z.0) in
    let here : bit_at (2 ^ 64 - 2 ^ t) k ≡ 1 = ap (λ x. bit_at x k) (sym (ones_shl 64 t within)) ∙ h in
    ⊎_elim (λ l. absurd (omega (arith, bit_at_mask_below t 64 k l))) (λ le. inr (t, le, z.1)) (cases_lt k t)

pub returns-else-word-eq0-clause-fills : goal.returns-else-word-eq0-clause-fills
returns-else-word-eq0-clause-fills c i k le small h =
    let w = c.args.word in
    let t : ℕ = trailing_zeros w64 w in
    let z = bit_at-trailing_zeros w64 w (omega arith) c.ranges.word.fits in
    let within : t ≤ 64 = omega (arith, z.0) in
    let low : t ≤ i = ⊎_elim (λ l. absurd (omega (arith, z.2 i l))) (λ e. e) (cases_lt i t) in
    ap (λ x. bit_at x k) (ones_shl 64 t within) ∙ bit_at_mask_inside t 64 k (omega arith) small

pub returns-then-reached-clause-all : goal.returns-then-reached-clause-all
returns-then-reached-clause-all c k small r = bit_at_ones 64 k small

pub returns-then-reached-clause-fills : goal.returns-then-reached-clause-fills
returns-then-reached-clause-fills c i k le small h = bit_at_ones 64 k small
