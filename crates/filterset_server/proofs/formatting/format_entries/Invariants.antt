use Rattle.std.proofs.Common.{map, string_bytes, take}
use Rattle.std.specs.List.{AllZip}
use Rattle.filterset_entries.specs.Checked.{text_row}
use Rattle.filterset_server.specs.Formatting.{IsFormatted}
use Rattle.filterset_server.proofs.formatting.format_entries.Given as goal

-- the filtersets so far have the texts that they get
abbrev pub invariant-loop-entry : goal.invariant-loop-entry
invariant-loop-entry l =
    AllZip IsFormatted (map text_row (take l.entry-index l.entries)) (map (λ s. string_bytes s) l.texts.items)
