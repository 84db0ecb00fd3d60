use Rattle.std.proofs.Common.{inl, inr, sym, ◌∙◌, arith}
use Rattle.std.proofs.lemmas.{Grind.common_steps, List.append-nil}
use Rattle.filterset_display.proofs.PositionLemmas.{starts-none, starts-step}
use Rattle.filterset_display.proofs.lines.find_starts.Goals.{then-ends_line+in_ok-push-2, else-ends_line}
use Rattle.filterset_display.proofs.lines.find_starts.Goals as goal

pub loop-at-preserved : goal.loop-at-preserved
loop-at-preserved c =
    starts-step c.args.text.now c.loop-at.at c.loop-at.starts.items _ c.if-ends_line.starts.items c.loop-at-test.true c.loop-at.invariant
    (elim c.if-ends_line.branch [
      | then-ends_line+in_ok-push-2 w ↦ inl (sym c.ends_line.ensures ∙ w.if-ends_line.true, grind (arith, common_steps))
      | else-ends_line w ↦ inr (sym c.ends_line.ensures ∙ w.if-ends_line.false, grind (arith, common_steps))
    ])

pub returns : goal.returns
returns c = sym (append-nil c.loop-at.starts.items) ∙ starts-none c.args.text.now c.loop-at.starts.items _ c.loop-at.at c.loop-at-test.false c.loop-at.invariant
