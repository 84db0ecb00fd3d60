use Rattle.std.proofs.{Common.arith, Common.sym, lemmas.List.take_all}
use Rattle.filterset_overrides.specs.ExplainedText.{indented, reason_at}
use Rattle.filterset_overrides.proofs.{ListLemmas.three_more, ReasonLemmas.lines_more}
use Rattle.filterset_overrides.proofs.explaining.text.push_overrides.Goals as goal

pub loop-at-preserved : goal.loop-at-preserved
loop-at-preserved c =
    let reason = rw c.reason_at.ensures at c.in_ok-push_indented.ensures in
    rw (lines_more c.args.all.now c.args.reasons.now c.loop-at.at c.index-all-at.result c.loop-at-test.true (sym c.index-all-at.is))
    (three_more _ _ _ _ _ _ _ c.loop-at.invariant (rw c.application_text-application.ensures at c.in_ok-writeln.ensures.bytes) reason)

pub returns : goal.returns
returns c = rw (take_all c.loop-at.at c.args.all.now (omega (arith, c.loop-at-test.false))) at c.loop-at.invariant
