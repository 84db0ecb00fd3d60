use Rattle.std.proofs.Common.{◌≡◌, ◌<◌, ◌/◌, length, slice_index, arith}
use Rattle.std.proofs.lemmas.List.{get_or_read}
use Rattle.filterset_record.proofs.BitLemmas.{bits_of_run}
use Rattle.filterset_record.proofs.bits.Bits.run_end.Goals as goal

pub returns-clause-same : goal.returns-clause-same
returns-clause-same c = λ i low high.
    let words = c.args.self.now.words.items in
    let p = c.args.position in
    let within : p / 64 < length words = omega (arith, c.requires.room, c.args.self.now.words.ok.0) in
    let read : c.index.result.now ≡ slice_index words (p / 64) = get_or_read words (p / 64) c.index.result.now within c.index.ensures 0 in
    bits_of_run words p i c.index.result.now c.min.result read (omega (arith, c.min.ensures)) (λ j below. c.run_len-run.ensures.same j (omega (arith, below, c.min.ensures))) low (omega (arith, high, c.min-2.ensures))
