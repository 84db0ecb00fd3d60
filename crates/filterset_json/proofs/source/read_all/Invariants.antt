use Rattle.std.proofs.Common.{◌≡◌, ◌-◌, ◌^◌, vec_len}
use Rattle.std.specs.Io.KnownBytes.{Consumes}
use Rattle.filterset_json.proofs.source.read_all.Given as goal

-- the bytes so far were consumed, and no read has failed
abbrev pub invariant-loop-count : goal.invariant-loop-count
invariant-loop-count g l =
    Consumes (g.R.Source.left l.initial.input) (g.R.Source.left l.input) l.bytes.items
    × (g.R.Source.failed l.input ≡ g.R.Source.failed l.initial.input)

-- a turn that goes on adds a byte
abbrev pub decreases-loop-count : goal.decreases-loop-count
decreases-loop-count g l = 2 ^ 64 - vec_len l.bytes
