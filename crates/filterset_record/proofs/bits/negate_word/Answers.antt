use Rattle.filterset_record.proofs.BitLemmas.{turned_bit}
use Rattle.filterset_record.proofs.bits.negate_word.Goals as goal

pub returns : goal.returns
returns c = λ i within. turned_bit c.args.word i c.ranges.word.fits within
