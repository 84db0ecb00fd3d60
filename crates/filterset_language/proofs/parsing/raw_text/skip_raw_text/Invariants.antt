use Rattle.std.proofs.Common.{◌≡◌, ◌≤◌, length}
use Rattle.filterset_language.specs.Parsing.{Position.IsAtOrBehind, RawTexts.plain_len, Recovery.Keeps}
use Rattle.filterset_language.proofs.parsing.raw_text.skip_raw_text.Given as goal

abbrev pub invariant-loop-behind : goal.invariant-loop-behind
invariant-loop-behind l = record {
  stops : plain_len l.end.rest.now ≡ 0;
  grows : length l.fn.faults.items ≤ length l.faults.items;
  stand : Keeps l.fn.input.text.now l.fn.faults.items l.faults.items;
  behind : IsAtOrBehind l.fn.input l.end;
}

abbrev pub decreases-loop-behind : goal.decreases-loop-behind
decreases-loop-behind l = length l.end.rest.now
