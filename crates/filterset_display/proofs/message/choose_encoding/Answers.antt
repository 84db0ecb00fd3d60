use Rattle.std.proofs.Common.{sym, ◌∙◌}
use Rattle.filterset_display.proofs.MessageLemmas.{first-found, first-next, first-none}
use Rattle.filterset_display.proofs.message.choose_encoding.Goals as goal

pub returns-in-Some : goal.returns-in-Some
returns-in-Some c =
    first-found c.args.values.now c.loop-value.value-index c.value-item.result c.in-Some.encoding c.loop-value-test.true c.value-item.is
    (sym c.encoding_of.ensures ∙ c.in-Some.is) c.loop-value.invariant

pub loop-value-preserved : goal.loop-value-preserved
loop-value-preserved c =
    first-next c.args.values.now c.loop-value.value-index c.value-item.result c.loop-value-test.true c.value-item.is
    (sym c.encoding_of.ensures ∙ c.in_default.is) c.loop-value.invariant

pub returns : goal.returns
returns c = first-none c.args.values.now c.loop-value.value-index c.loop-value-test.false c.loop-value.invariant
