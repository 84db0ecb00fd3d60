use Rattle.std.proofs.Common.{◌≡◌, ◌++◌, ℕ, List, chars, length}
use Rattle.std.specs.{Fmt.HasWritten, Fmt.IsPlainFormatter, List.flat_map}
use denote.Text.{Utf8}
use denote.Shadow.{shadow}
use Rattle.filterset_matchers.specs.PrintedMatcher.{printed_slash}
use Rattle.filterset_matchers.proofs.printing.write_slashed.Given as goal

-- the rest is text; what was written so far, and what the rest prints
abbrev pub invariant-loop-run : goal.invariant-loop-run
invariant-loop-run g l =
    shadow (Utf8 l.rest)
    × (written : List ℕ) × (flat_map printed_slash (chars l.pattern) ≡ written ++ flat_map printed_slash (chars l.rest))
    × (IsPlainFormatter l.fn.f → HasWritten g.W.Write.write_str_gives l.fn.f written l.f)

abbrev pub decreases-loop-run : goal.decreases-loop-run
decreases-loop-run g l = length l.rest
