use Rattle.std.proofs.Common.{◌≡◌, chars, drop, length, string_bytes}
use Rattle.filterset_matchers.specs.Pattern.{plain_text}
use Rattle.filterset_matchers.proofs.Unescaping.{goes_on}
use Rattle.filterset_matchers.proofs.matcher.plain.unescape.Given as goal

-- what is found so far, and what the rest stands for
abbrev pub invariant-loop-character : goal.invariant-loop-character
invariant-loop-character l =
    goes_on l.is_escaped (string_bytes l.text) (drop (length l.yielded) (chars l.pattern)) ≡ plain_text l.pattern
