use Rattle.std.proofs.Common.{◌≡◌, ◌-◌, ◌^◌, vec_len}
use Rattle.std.specs.Io.KnownBytes.{Consumes}
use Rattle.filterset_display.proofs.opening.read_opening.Given as goal

abbrev pub invariant-loop-read : goal.invariant-loop-read
invariant-loop-read g l = record {
  consumed : Consumes (g.R.Source.left l.initial.input) (g.R.Source.left l.input) l.read.items;
  kept : g.R.Source.failed l.input ≡ g.R.Source.failed l.initial.input;
}

-- a turn that goes on adds a byte
abbrev pub decreases-loop-read : goal.decreases-loop-read
decreases-loop-read g l = 2 ^ 64 - vec_len l.read
