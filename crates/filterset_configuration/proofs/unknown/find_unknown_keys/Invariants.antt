use Rattle.std.proofs.Common.{take}
use Rattle.filterset_configuration.specs.Keys.{Finds, Judged, key_rows}
use Rattle.filterset_configuration.proofs.unknown.find_unknown_keys.Given as goal

-- the keys so far were judged
abbrev pub invariant-loop-found : goal.invariant-loop-found
invariant-loop-found l = Finds (Judged l.fn.parsed.text.now (key_rows l.keys)) 0 (key_rows (take l.found-index l.keys)) l.unknown.items
