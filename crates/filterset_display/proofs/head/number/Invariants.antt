use Rattle.std.proofs.Common.{◌≡◌, ◌≤◌, drop}
use Rattle.filterset_display.specs.Frames.{more_digits, most_of_message}
use Rattle.filterset_display.proofs.head.number.Given as goal

abbrev pub invariant-loop-digit : goal.invariant-loop-digit
invariant-loop-digit l = record {
  read : more_digits l.value (drop l.digit-index l.digits) ≡ more_digits 0 l.digits;
  small : l.value ≤ most_of_message;
}
