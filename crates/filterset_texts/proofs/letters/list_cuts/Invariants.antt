use Rattle.std.proofs.Common.{◌≡◌, take}
use Rattle.filterset_texts.specs.{Letters.cuts_of, Places.row_of}
use Rattle.filterset_texts.proofs.letters.list_cuts.Given as goal

abbrev pub invariant-loop-place : goal.invariant-loop-place
invariant-loop-place l = l.cuts.items ≡ cuts_of (row_of (take l.place-index l.places))
