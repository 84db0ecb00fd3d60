use Rattle.std.proofs.Common.{◌+◌, ◌-◌, ap, bit_and, arith}
use Rattle.std.proofs.lemmas.Nat.{and_le_l, Bits.bit_at-zero}
use Rattle.std.specs.Int.{bit_at}
use Rattle.filterset_matchers.proofs.Substrings.{between_zeros, bit_of_both}
use Rattle.filterset_matchers.proofs.matcher.substring.narrow.Goals as goal

pub returns-then-both-eq0-clause-each : goal.returns-then-both-eq0-clause-each
returns-then-both-eq0-clause-each c k after below near stands =
    let set = bit_of_both c.args.text.now c.args.needle.now c.args.to k c.find_equal-begun.result c.find_equal-ended.result c.requires.some
    (omega arith) c.requires.within below near stands (rw c.requires.ends.0 at c.find_equal-begun.ensures) (rw c.requires.ends.1 at c.find_equal-ended.ensures) in
    absurd (omega (arith, set, ap (λ n. bit_at n (k + 16 - c.args.to)) c.if-both-eq0.true, bit_at-zero (k + 16 - c.args.to)))

pub returns-clause-each : goal.returns-clause-each
returns-clause-each c k after below near stands =
    let begun = c.find_equal-begun.result in
    let ended = c.find_equal-ended.result in
    let set = bit_of_both c.args.text.now c.args.needle.now c.args.to k begun ended c.requires.some
    (omega arith) c.requires.within below near stands (rw c.requires.ends.0 at c.find_equal-begun.ensures) (rw c.requires.ends.1 at c.find_equal-ended.ensures) in
    let between = between_zeros (bit_and begun ended) (k + 16 - c.args.to) (omega (arith, and_le_l begun ended, c.find_equal-begun.type_inv)) set in
    (omega (arith, between.0), omega (arith, between.1, c.min.ensures))
