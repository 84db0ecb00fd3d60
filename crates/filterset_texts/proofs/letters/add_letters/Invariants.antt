use Rattle.std.proofs.Common.{take}
use Rattle.std.specs.{List.All, Char.InScalarRange}
use Rattle.filterset_texts.specs.{Letters.HasLetterLike, Letters.KeepsLetters, Places.row_of}
use Rattle.filterset_texts.proofs.letters.add_letters.Given as goal

abbrev pub invariant-loop-number : goal.invariant-loop-number
invariant-loop-number l = record {
  kept : KeepsLetters (row_of l.places) l.fn.letters.items l.letters.items;
  has : All (λ number. InScalarRange number → HasLetterLike (row_of l.places) l.letters.items number)
      (take l.number-index l.numbers);
}
