use Rattle.std.proofs.Common.{◌≡◌, ◌∙◌, None, Option, Some, ap, refl}
use Rattle.std.specs.{Borrow.Bor, Prelude.unwrap_or}
use Rattle.filterset_display.specs.Columns.{Text}
use Rattle.filterset_entries.specs.Entries.{default_row, given_row}
use Rattle.filterset_verdicts.proofs.NamingLemmas.{at_none}
use Rattle.filterset_verdicts.proofs.deciding.decide_known.Goals as goal

-- the row of the text that is given, or else of the other
row_given : (given : Option (Bor Text)) (all : Bor Text) → default_row (unwrap_or given all).now ≡ unwrap_or (given_row given) (default_row all.now)
row_given (Some text) all = refl
row_given None all = refl

pub returns-in_ok-decide_entries-in-None-clause-answered : goal.returns-in_ok-decide_entries-in-None-clause-answered
returns-in_ok-decide_entries-in-None-clause-answered g c =
    let row = c.in_ok-default-in-None.ensures ∙ ap (λ (t : Bor Text). default_row t.now) c.unwrap_or.ensures
    ∙ row_given c.args.request.now.default_filter _ in
    let told = rw (c.as_slice-entries.ensures.value, c.in_ok-entries.ensures, row) at c.in_ok-decide_entries-in-None.ensures in
    at_none _ _ _ c.in-None.is (c.global_only-groups.result, c.global_only-groups.ensures.global, told)
