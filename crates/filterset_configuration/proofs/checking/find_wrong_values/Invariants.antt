use Rattle.std.proofs.Common.{take}
use Rattle.toml.specs.View.{view}
use Rattle.filterset_configuration.specs.{Keys.Finds, Wrong.Judged, Wrong.value_rows}
use Rattle.filterset_configuration.proofs.checking.find_wrong_values.Given as goal

-- the values so far were checked
abbrev pub invariant-loop-at : goal.invariant-loop-at
invariant-loop-at l = Finds (Judged l.fn.parsed.text.now (view l.fn.parsed.file.now)) 0 (value_rows (take l.at l.values)) l.wrong.items
