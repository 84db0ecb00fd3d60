use Rattle.std.proofs.lemmas.Iterator.{Consumers.YieldsList-end, Splits.YieldsList-from_lines}
use Rattle.filterset_verdicts.proofs.reasons.indent.Goals as goal

pub returns : goal.returns
returns c =
    let chain = YieldsList-from_lines {s = c.into_iter-line-iterator.result} c.args.text.now (cc) in
    let whole = YieldsList-end chain c.loop-line.yielded _ c.loop-line.yielded_by _ _ c.in-None.is c.next.ensures.steps in
    rw whole.0 at c.loop-line.invariant
