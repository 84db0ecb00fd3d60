use Rattle.std.proofs.{Common.arith, lemmas.Nat.Bits.bit_at_and, lemmas.Nat.Bits.bit_at-lt}
use Rattle.filterset_glob.proofs.word.intersect.Goals as goal

pub returns-clause-both : goal.returns-clause-both
returns-clause-both c k h =
    let a = bit_at_and c.args.word c.args.other k in
    (omega (arith, bit_at-lt c.args.word k, bit_at-lt c.args.other k), omega (arith, bit_at-lt c.args.word k, bit_at-lt c.args.other k))

pub returns-clause-kept : goal.returns-clause-kept
returns-clause-kept c k p q = omega (arith, bit_at_and c.args.word c.args.other k)
