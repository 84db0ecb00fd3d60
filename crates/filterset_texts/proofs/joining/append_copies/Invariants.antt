use Rattle.std.proofs.Common.{take}
use Rattle.filterset_texts.specs.{Cuts.HoldInTurn, Cuts.HoldTogether, Parts.Fits}
use Rattle.filterset_texts.proofs.joining.append_copies.Given as goal

-- the parts so far are appended
abbrev pub invariant-loop-part : goal.invariant-loop-part
invariant-loop-part l =
    HoldTogether (Fits l.sequence.items) (HoldInTurn (Fits l.initial.sequence.items) (Fits (take l.part-index l.parts)))
