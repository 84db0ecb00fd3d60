use Rattle.std.proofs.Common.{◌≡◌, ◌++◌, List, ℕ, length}
use Rattle.std.specs.Io.KnownBytes.{Appends}
use Rattle.filterset_json.proofs.sink.write_all.Given as goal

-- what stands before the rest was taken, and no write has failed
abbrev pub invariant-loop-rest : goal.invariant-loop-rest
invariant-loop-rest g l =
    ((front : List ℕ) × (l.text ≡ front ++ l.rest)
    × Appends (g.W.Sink.taken l.initial.output) (g.W.Sink.taken l.output) front)
    × (g.W.Sink.failed l.output ≡ g.W.Sink.failed l.initial.output)

abbrev pub decreases-loop-rest : goal.decreases-loop-rest
decreases-loop-rest g l = length l.rest
