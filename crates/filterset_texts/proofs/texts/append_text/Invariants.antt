use Rattle.filterset_texts.specs.{Cuts.HoldInTurn, Cuts.HoldTogether, Parts.Fits}
use Rattle.filterset_texts.proofs.Spelling.{IsText}
use Rattle.filterset_texts.proofs.texts.append_text.Given as goal

-- the characters so far are appended
abbrev pub invariant-loop-c : goal.invariant-loop-c
invariant-loop-c l = HoldTogether (Fits l.sequence.items) (HoldInTurn (Fits l.initial.sequence.items) (IsText l.yielded))
