use Rattle.std.proofs.Common.{◌≡◌, map, string_bytes, take}
use Rattle.filterset_offers.specs.Something.{lines_of}
use Rattle.filterset_offers.proofs.index.lines_of.Given as goal

-- the lines of the texts so far
abbrev pub invariant-loop-text : goal.invariant-loop-text
invariant-loop-text l = string_bytes l.lines ≡ lines_of (map (λ t. t.now) (take l.text-index l.texts))
