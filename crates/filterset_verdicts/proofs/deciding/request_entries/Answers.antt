use Rattle.std.proofs.Common.{◌∷◌, ◌∙◌, ap, map}
use Rattle.std.specs.Prelude.{codes}
use Rattle.filterset_entries.specs.{Checked.text_row, Entries.test_row}
use Rattle.filterset_display.specs.Columns.{Text}
use Rattle.filterset_verdicts.specs.Deciding.{within_of}
use Rattle.filterset_verdicts.proofs.deciding.request_entries.Goals as goal

pub returns : goal.returns
returns c =
    ap (map text_row) c.in_ok-insert.ensures.items
    ∙ ap (λ row. row ∷ map text_row c.in_ok-entries.entries.items) (c.in_ok-within.ensures ∙ ap (λ (t : Text). test_row (codes "--within") t) c.within_text.ensures)
    ∙ ap (λ rows. test_row (codes "--within") (within_of c.args.request.now.within c.args.request.now.metadata) ∷ rows) c.in_ok-entries.ensures
