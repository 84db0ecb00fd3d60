use Rattle.std.proofs.Common.{take}
use Rattle.std.specs.Prelude.{option_map}
use Rattle.filterset_entries.specs.Placements.{placement_of}
use Rattle.filterset_documents.specs.Joins.{Joins}
use Rattle.filterset_server.specs.Highlights.{TokenMarks}
use Rattle.filterset_server.proofs.highlighting.entry_marks.Given as goal

-- what is shown of the tokens so far
abbrev pub invariant-loop-token : goal.invariant-loop-token
invariant-loop-token l =
    Joins (TokenMarks l.shown.encoding l.shown.lines.text.now (option_map placement_of l.entry.place)) (take l.token-index l.tokens) l.marks.items
