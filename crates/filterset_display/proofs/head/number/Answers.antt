use Rattle.std.proofs.{Common.arith, lemmas.Grind.common_steps}
use Rattle.filterset_display.proofs.HeadLemmas.{number-stop, number-next, number-large, number-done}
use Rattle.filterset_display.proofs.head.number.Goals as goal

pub returns-then-not-is_ascii_digit-clause-value : goal.returns-then-not-is_ascii_digit-clause-value
returns-then-not-is_ascii_digit-clause-value c =
    number-stop c.args.digits.now c.loop-digit.digit-index c.loop-digit.value c.loop-digit-test.true (grind (arith, common_steps)) c.loop-digit.invariant.read

pub returns-then-value-gt-MOST_OF_MESSAGE-clause-value : goal.returns-then-value-gt-MOST_OF_MESSAGE-clause-value
returns-then-value-gt-MOST_OF_MESSAGE-clause-value c =
    number-large c.args.digits.now _ _ c.if-value-gt-MOST_OF_MESSAGE.true
    (number-next c.args.digits.now c.loop-digit.digit-index c.loop-digit.value _ c.loop-digit-test.true (grind (arith, common_steps)) (grind (arith, common_steps)) c.loop-digit.invariant.read)

pub loop-digit-preserved : goal.loop-digit-preserved
loop-digit-preserved c = record {
  read = number-next c.args.digits.now c.loop-digit.digit-index c.loop-digit.value _ c.loop-digit-test.true (grind (arith, common_steps)) (grind (arith, common_steps)) c.loop-digit.invariant.read;
  small = c.if-value-gt-MOST_OF_MESSAGE.false;
}

pub returns-clause-value : goal.returns-clause-value
returns-clause-value c = number-done c.args.digits.now c.loop-digit.digit-index c.loop-digit.value c.loop-digit-test.false c.loop-digit.invariant.small c.loop-digit.invariant.read
