use Rattle.std.proofs.Common.{◌≡◌, ◌*◌, length}
use Rattle.filterset_texts.specs.{Cuts.HoldInTurn, Cuts.HoldTogether, Parts.FitsSome}
use Rattle.filterset_texts.proofs.joining.join_each.Given as goal

-- the fronts so far are joined with each of the backs
abbrev pub invariant-loop-front : goal.invariant-loop-front
invariant-loop-front l = record {
  matched : HoldTogether (FitsSome l.joined.items) (HoldInTurn (FitsSome l.yielded) (FitsSome l.backs));
  count : length l.joined.items ≡ length l.yielded * length l.backs;
}
