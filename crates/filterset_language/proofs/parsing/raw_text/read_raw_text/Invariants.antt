use Rattle.std.proofs.Common.{◌≡◌, length}
use Rattle.std.specs.String.{string_bytes}
use Rattle.filterset_language.specs.Parsing.Position.{position_of, IsAtOrBehind}
use Rattle.filterset_language.specs.Parsing.RawTexts.{plain_len, SpelledTo}
use Rattle.filterset_language.proofs.parsing.raw_text.read_raw_text.Given as goal

abbrev pub invariant-loop-behind : goal.invariant-loop-behind
invariant-loop-behind l = record {
  spelled : SpelledTo (position_of l.fn.input) (string_bytes l.value) (position_of l.end);
  same : l.faults.items ≡ l.fn.faults.items;
  stops : plain_len l.end.rest.now ≡ 0;
  behind : IsAtOrBehind l.fn.input l.end;
}

abbrev pub decreases-loop-behind : goal.decreases-loop-behind
decreases-loop-behind l = length l.end.rest.now
