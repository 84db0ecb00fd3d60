use Rattle.filterset_texts.specs.{Letters.KeepsLetters, Places.row_of}
use Rattle.std.proofs.Common.{[]}
use Rattle.filterset_texts.proofs.letters.list_letters.Given as goal

abbrev pub invariant-loop-byte : goal.invariant-loop-byte
invariant-loop-byte l = KeepsLetters (row_of l.places) [] l.letters.items
