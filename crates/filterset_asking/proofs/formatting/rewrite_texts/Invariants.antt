use Rattle.std.proofs.Common.{◌≡◌, ◌≤◌, map, string_bytes, take}
use Rattle.filterset_json.specs.Pieces.{Pieces}
use Rattle.filterset_answers.specs.Answers.{FaultsOf}
use Rattle.filterset_asking.specs.Formatted.{FormattedLine}
use Rattle.filterset_entries.specs.Checked.{HasReadingFaults, text_row}
use Rattle.filterset_asking.proofs.formatting.rewrite_texts.Given as goal

-- the texts so far were written, or their faults
abbrev pub invariant-loop-i : goal.invariant-loop-i
invariant-loop-i l = (l.faulty ≤ l.i)
    × (l.faulty ≡ 0 → Pieces (FormattedLine l.rewriting) (map text_row (take l.i l.texts)) (string_bytes l.written.lines))
    × FaultsOf HasReadingFaults l.form 1 (map text_row (take l.i l.texts)) l.faulty (string_bytes l.written.faults)
