use Rattle.std.proofs.Common.{ℕ, ◌<◌, get_or}
use Rattle.std.specs.Prelude.{IsTrue}
use Rattle.filterset_configuration.specs.PlatformGrammar.{is_triple_byte}
use Rattle.filterset_configuration.proofs.platforms.specification.triple_len.Given as goal

abbrev pub invariant-loop-i : goal.invariant-loop-i
invariant-loop-i l = (k : ℕ) → k < l.i → IsTrue (is_triple_byte (get_or l.text k 0))
