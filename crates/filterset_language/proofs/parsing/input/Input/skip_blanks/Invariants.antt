use Rattle.std.proofs.Common.{◌≡◌, length}
use Rattle.filterset_language.specs.Parsing.Position.{skip, position_of, IsAtOrBehind}
use Rattle.filterset_language.proofs.parsing.input.Input.skip_blanks.Given as goal

abbrev pub invariant-loop-input : goal.invariant-loop-input
invariant-loop-input l = record { same : skip (position_of l.input) ≡ skip (position_of l.fn.self); behind : IsAtOrBehind l.fn.self l.input }

abbrev pub decreases-loop-input : goal.decreases-loop-input
decreases-loop-input l = length l.input.rest.now
