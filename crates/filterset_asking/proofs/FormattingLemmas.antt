-- Lines of formatted texts, as long as none has faults.
use Rattle.std.proofs.Common.{◌≡◌, ◌+◌, ℕ, Bool, arith, List, [], ◌∷◌, ◌++◌, refl, true, false}
use Rattle.filterset_json.specs.Pieces.{Pieces}
use Rattle.filterset_json.proofs.PieceLemmas.{Pieces-push}
use Rattle.filterset_display.specs.Columns.{Text}
use Rattle.filterset_answers.proofs.AnswersLemmas.{one_if, some_is}
use Rattle.filterset_answers.specs.Answers.{has_some}
use Rattle.filterset_asking.specs.Formatted.{FormattedLine, FormattedPart}
use Rattle.filterset_asking.specs.declared.formatting.Rewriting.{Rewriting}
use Rattle.filterset_entries.specs.Checked.{TextRow, all_remarks}
use Rattle.filterset_rewriting.specs.Reading.{IsUnreadFor}
use Rattle.filterset_rewriting.specs.declared.reading.TextRefusal.{TextRefusal, TheVariants.Found, TheVariants.TooDeep}

-- the line of the next text, as long as none has faults
pub FormattedLines-next : (rewriting : Rewriting) (rows : List TextRow) (row : TextRow) (lines line : Text) (faulty : ℕ) (has : Bool)
    → (faulty ≡ 0 → Pieces (FormattedLine rewriting) rows lines) → FormattedPart rewriting has row line
    → (faulty + one_if has ≡ 0 → Pieces (FormattedLine rewriting) (rows ++ row ∷ []) (lines ++ line))
FormattedLines-next rewriting rows row lines line faulty true are is none = absurd (omega (arith, none))
FormattedLines-next rewriting rows row lines line faulty false are is none = Pieces-push (FormattedLine rewriting) rows row lines line (are (omega (arith, none))) is

pub unread_some : (text : Text) (faults : TextRefusal) → IsUnreadFor text faults → true ≡ has_some (all_remarks faults)
unread_some text (Found faults) unread = some_is faults.items unread.some
unread_some text (TooDeep place) deep = refl
