use Rattle.std.proofs.{Common.◌+◌, Common.◌*◌, Common.◌%◌, Common.◌^◌, Common.arith, lemmas.Nat.Bits.bit_at_or}
use Rattle.filterset_glob.proofs.OneWord.{shl_lowest, shl_bit, carry_lowest, carry_above}
use Rattle.filterset_glob.proofs.word.shift_up.Goals as goal

pub returns-clause-lowest : goal.returns-clause-lowest
returns-clause-lowest c =
    omega (arith, bit_at_or (c.args.word * 2 ^ 1 % 2 ^ 64) c.args.lowest 0, shl_lowest c.args.word, carry_lowest c.args.lowest c.requires)

pub returns-clause-moved : goal.returns-clause-moved
returns-clause-moved c k l =
    omega (arith, bit_at_or (c.args.word * 2 ^ 1 % 2 ^ 64) c.args.lowest (k + 1), shl_bit c.args.word k l, carry_above c.args.lowest k c.requires)
