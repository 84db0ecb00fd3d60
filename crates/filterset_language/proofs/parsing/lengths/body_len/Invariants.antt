use Rattle.std.proofs.Common.{◌≡◌, ◌+◌, drop}
use Rattle.filterset_language.specs.Parsing.RawTexts.{body_len}
use Rattle.filterset_language.proofs.parsing.lengths.body_len.Given as goal

abbrev pub invariant-loop-i : goal.invariant-loop-i
invariant-loop-i l = l.i + body_len l.before (drop l.i l.text) ≡ body_len 0 l.text
