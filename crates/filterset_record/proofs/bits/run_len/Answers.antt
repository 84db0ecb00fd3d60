use Rattle.std.proofs.Common.{◌==◌, ap, sym, ◌∙◌}
use Rattle.filterset_record.proofs.BitLemmas.{lowest_bit, lowest_unset, ones_run, zeros_run}
use Rattle.filterset_record.proofs.bits.run_len.Goals as goal

pub returns-then-word-eq1-clause-some : goal.returns-then-word-eq1-clause-some
returns-then-word-eq1-clause-some c =
    rw c.trailing_ones.ensures (ones_run c.args.word c.ranges.word.fits (lowest_bit c.args.word ∙ c.if-word-eq1.true)).0

pub returns-then-word-eq1-clause-same : goal.returns-then-word-eq1-clause-same
returns-then-word-eq1-clause-same c = λ i below.
    let lowest = lowest_bit c.args.word ∙ c.if-word-eq1.true in
    ap (λ b. b == 1) ((ones_run c.args.word c.ranges.word.fits lowest).1 i (rw c.trailing_ones.ensures at below) ∙ sym lowest)

pub returns-else-word-eq1-clause-some : goal.returns-else-word-eq1-clause-some
returns-else-word-eq1-clause-some c = (zeros_run c.args.word c.ranges.word.fits (lowest_unset c.args.word c.if-word-eq1.false)).0

pub returns-else-word-eq1-clause-same : goal.returns-else-word-eq1-clause-same
returns-else-word-eq1-clause-same c = λ i below.
    let lowest = lowest_unset c.args.word c.if-word-eq1.false in
    ap (λ b. b == 1) ((zeros_run c.args.word c.ranges.word.fits lowest).1 i below ∙ sym lowest)
