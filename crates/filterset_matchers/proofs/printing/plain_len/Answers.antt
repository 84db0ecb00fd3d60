use Rattle.std.proofs.lemmas.List.Elements.{All-more}
use Rattle.filterset_matchers.specs.Runs.{IsPlain}
use Rattle.filterset_matchers.proofs.printing.plain_len.Goals as goal

pub loop-i-preserved : goal.loop-i-preserved
loop-i-preserved c =
    All-more IsPlain c.args.value.now c.loop-i.i 0 c.loop-i-test.true c.loop-i.invariant (c.is_plain.ensures.0 c.if-not-is_plain.false)
