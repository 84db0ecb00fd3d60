use Rattle.std.proofs.Common.{◌≡◌, take}
use Rattle.std.specs.List.{All}
use Rattle.filterset_texts.proofs.letters.has_marks.Given as goal

abbrev pub invariant-loop-letter : goal.invariant-loop-letter
invariant-loop-letter l = All (λ letter. letter.marks.items ≡ l.marks → ⊥) (take l.letter-index l.letters)
