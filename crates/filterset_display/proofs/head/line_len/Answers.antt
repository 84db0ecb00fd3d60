use Rattle.std.proofs.Common.{sym, ◌∙◌}
use Rattle.filterset_display.proofs.HeadLemmas.{line_len-next, line_len-here, line_len-none}
use Rattle.filterset_display.proofs.head.line_len.Goals as goal
use Rattle.filterset_display.proofs.head.line_len.Goals.{else-bytes-at-eq13-via-then-bytes-at-eq13+else-byte_at-eq10, else-bytes-at-eq13-via-else-bytes-at-eq13}

pub returns-then-byte_at-eq10-clause-value : goal.returns-then-byte_at-eq10-clause-value
returns-then-byte_at-eq10-clause-value c =
    line_len-here c.args.bytes.now c.loop-at.at c.loop-at-test.true c.if-bytes-at-eq13.true (sym c.byte_at.ensures ∙ c.if-byte_at-eq10.true) c.loop-at.invariant

pub loop-at-preserved : goal.loop-at-preserved
loop-at-preserved c =
    line_len-next c.args.bytes.now c.loop-at.at c.loop-at-test.true
    (elim c.else-bytes-at-eq13.branch [
      | else-bytes-at-eq13-via-then-bytes-at-eq13+else-byte_at-eq10 w ↦ λ a b. w.if-byte_at-eq10.false (w.byte_at.ensures ∙ b)
      | else-bytes-at-eq13-via-else-bytes-at-eq13 w ↦ λ a b. w.if-bytes-at-eq13.false a
    ])
    c.loop-at.invariant

pub returns-clause-value : goal.returns-clause-value
returns-clause-value c = line_len-none c.args.bytes.now c.loop-at.at c.loop-at-test.false c.loop-at.invariant
