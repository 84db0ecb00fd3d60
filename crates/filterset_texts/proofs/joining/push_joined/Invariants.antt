use Rattle.std.proofs.Common.{◌≡◌, ◌+◌, length, take}
use Rattle.filterset_texts.specs.{Cuts.HoldTogether, Parts.Fits, Parts.FitsSome}
use Rattle.filterset_texts.proofs.Sequences.{FitsOrBegins}
use Rattle.filterset_texts.proofs.joining.push_joined.Given as goal

-- the front is joined with the backs so far
abbrev pub invariant-loop-back : goal.invariant-loop-back
invariant-loop-back l = record {
  matched : HoldTogether (FitsSome l.joined.items) (FitsOrBegins l.initial.joined.items (Fits l.front.items) (take l.back-index l.others));
  count : length l.joined.items ≡ length l.initial.joined.items + l.back-index;
}
