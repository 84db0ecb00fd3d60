use Rattle.std.proofs.Common.{map, take}
use Rattle.std.specs.List.{AllZip}
use Rattle.serde_json.specs.View.{view}
use Rattle.filterset_entries.specs.Checked.{text_row}
use Rattle.filterset_server.specs.Symbols.{IsSymbol}
use Rattle.filterset_server.proofs.symbols.symbols_value.Given as goal

-- the filtersets so far have their symbols
abbrev pub invariant-loop-entry : goal.invariant-loop-entry
invariant-loop-entry l =
    AllZip (IsSymbol l.shown.encoding l.shown.lines.text.now) (map text_row (take l.entry-index l.entries)) (map view l.values.items)
