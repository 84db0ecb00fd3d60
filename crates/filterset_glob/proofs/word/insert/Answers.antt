use Rattle.std.proofs.{Common.w64, lemmas.Nat.Bits.bit_at_set_same, lemmas.Nat.Bits.bit_at_set_other}
use Rattle.filterset_glob.proofs.word.insert.Goals as goal

pub returns-clause-set : goal.returns-clause-set
returns-clause-set c = bit_at_set_same w64 c.args.word c.args.bit c.requires

pub returns-clause-others : goal.returns-clause-others
returns-clause-others c k ne = bit_at_set_other w64 c.args.word c.args.bit c.requires k ne
