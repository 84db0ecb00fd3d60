use Rattle.std.proofs.Common.{◌∙◌, Some, ap, sym}
use Rattle.filterset_entries.specs.{Checked.TextRow, Entries.default_row, Entries.given_row}
use Rattle.filterset_asking.proofs.asking.given_default.Goals as goal

pub returns-in_ok-default_entry-in-Some : goal.returns-in_ok-default_entry-in-Some
returns-in_ok-default_entry-in-Some c =
    ap (λ (row : TextRow). Some (default_row row.text)) c.in_ok-default_entry-in-Some.ensures ∙ sym (ap given_row c.in-Some.is)
