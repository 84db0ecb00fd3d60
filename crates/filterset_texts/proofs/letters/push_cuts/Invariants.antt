use Rattle.std.proofs.Common.{◌≡◌, ◌++◌, take}
use Rattle.filterset_texts.specs.Letters.{cuts_of_ranges}
use Rattle.filterset_texts.proofs.letters.push_cuts.Given as goal

abbrev pub invariant-loop-low : goal.invariant-loop-low
invariant-loop-low l = l.cuts.items ≡ l.fn.cuts.items ++ cuts_of_ranges (take l.low-index l.ranges)
