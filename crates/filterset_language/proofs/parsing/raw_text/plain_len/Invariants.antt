use Rattle.std.proofs.Common.{◌≡◌, ◌+◌, drop}
use Rattle.filterset_language.specs.Parsing.RawTexts.{plain_len}
use Rattle.filterset_language.proofs.parsing.raw_text.plain_len.Given as goal

abbrev pub invariant-loop-i : goal.invariant-loop-i
invariant-loop-i l = l.i + plain_len (drop l.i l.text) ≡ plain_len l.text
