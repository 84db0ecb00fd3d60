use Rattle.std.proofs.Common.{◌≡◌, string_bytes, take}
use Rattle.filterset_offers.specs.Words.{backticks}
use Rattle.filterset_offers.proofs.words.backticks_of.Given as goal

-- the backticks of the bytes so far
abbrev pub invariant-loop-byte : goal.invariant-loop-byte
invariant-loop-byte l = string_bytes l.ticks ≡ backticks (take l.byte-index l.text)
