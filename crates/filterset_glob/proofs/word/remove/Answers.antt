use Rattle.std.proofs.Common.{◌≡◌, ◌+◌, ◌*◌, ◌%◌, ◌^◌, ap, ◌∙◌, arith, bit_xor}
use Rattle.std.specs.Int.{bit_at}
use Rattle.std.proofs.lemmas.Nat.{one_shl, Bits.bit_at_xor, Bits.bit_at-pow_same, Bits.bit_at-pow_other, Bits.bit_at-lt}
use Rattle.filterset_glob.proofs.word.remove.Goals as goal

pub returns-clause-clear : goal.returns-clause-clear
returns-clause-clear c =
    let w = c.args.word in let b = c.args.bit in
    let flipped : bit_at (bit_xor w (1 * 2 ^ b % 2 ^ 64)) b ≡ (bit_at w b + bit_at (2 ^ b) b) % 2 =
    bit_at_xor w (1 * 2 ^ b % 2 ^ 64) b ∙ ap (λ x. (bit_at w b + bit_at x b) % 2) (one_shl b 64 c.requires.small) in
    omega (arith, flipped, bit_at-pow_same b, c.requires.set)

pub returns-clause-others : goal.returns-clause-others
returns-clause-others c k ne =
    let w = c.args.word in let b = c.args.bit in
    let flipped : bit_at (bit_xor w (1 * 2 ^ b % 2 ^ 64)) k ≡ (bit_at w k + bit_at (2 ^ b) k) % 2 =
    bit_at_xor w (1 * 2 ^ b % 2 ^ 64) k ∙ ap (λ x. (bit_at w k + bit_at x k) % 2) (one_shl b 64 c.requires.small) in
    omega (arith, flipped, bit_at-pow_other b k ne, bit_at-lt w k)
