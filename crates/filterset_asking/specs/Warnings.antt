-- What is written of what a list of tests says of filtersets.
use Rattle.std.specs.Prelude.{◌≡◌, ◌≢◌, ◌⊎◌, ◌==◌, ◌+◌, ◌++◌, ℕ, suc, Bool, true, false, List, [], ◌∷◌, None, codes, decimal, if◌then◌else◌, length, map}
use Rattle.std.specs.List.{count_by}
use Rattle.filterset_answers.specs.{Answers.FaultsOf, Compiled.Basis as SettingBasis}
use Rattle.filterset_entries.specs.Checked.{IsAccepted, IsRefusedFor, HasRefusal, TextRow}
use Rattle.filterset_entries.specs.{Entries.setting_rows, Forms.IsWritten, Forms.text_writing}
use Rattle.filterset_entries.specs.declared.{setting.Setting.Setting, text.Ending.Ending}
use Rattle.filterset_entries.specs.declared.text.Ending.TheVariants.{Faulty, Fine}
use Rattle.filterset_entries.specs.declared.text.WarningEnd.{WarningEnd}
use Rattle.filterset_display.specs.{declared.remark.Form.Form, declared.remark.Form.TheVariants.Drawn, Columns.Text}
use Rattle.filterset_display.specs.{Remarks.RemarkRow, Remarks.said, declared.remark.Severity.TheVariants.Warning}
use Rattle.filterset_rewriting.specs.declared.reading.TextRefusal.{TextRefusal}
use Rattle.filterset_faults.specs.declared.span.SourceSpan.{SourceSpan}
use Rattle.filterset_grammar.specs.{Printing.printed, Tree.Tree}
use Rattle.filterset_listing.specs.{Subjects.AreSubjects, Needless.AreNeedless, Needless.Found, SubjectValues.Basis}
use Rattle.filterset_listing.specs.Unmatched.{AreUnmatched, Unmatched, unmatched_message}
use Rattle.filterset_listing.specs.declared.{subjects.Subject.Subject, binary.AskedBinary.AskedBinary}
use Rattle.filterset_json.specs.Pieces.{Pieces}
use Rattle.filterset_language.specs.Faults.{leaf_span}
use Rattle.nextest_filtering.specs.declared.compile.context.KnownGroups.{KnownGroups}
use Rattle.filterset_asking.specs.Spans.{tree_span}

-- ---- what warnings say

-- a predicate matches no test
abbrev pub unmatched_remark : Unmatched → RemarkRow
unmatched_remark found =
    said Warning (codes "NoTestMatch") (unmatched_message found) None None (leaf_span found.0)

-- a constant as it is written
abbrev pub constant_text : Bool → Text
constant_text true = codes "all()"
constant_text false = codes "none()"

-- an operand changes nothing: in its place the constant picks the same tests
abbrev pub needless_remark : Found → RemarkRow
needless_remark found = said Warning (codes "NeedlessOperand") (codes "`" ++ (printed found.0
    ++ (codes "` changes nothing: `" ++ (constant_text found.1 ++ codes "` in its place picks the same tests"))))
    None None (tree_span found.0)

-- what there is to say of a filterset: of its predicates that match no test, and then of its operands that change nothing
abbrev pub remarks_of : List Unmatched → List Found → List RemarkRow
remarks_of unmatched needless = map unmatched_remark unmatched ++ map needless_remark needless

-- ---- texts

-- The warnings of the text with this number, and how many: exactly those of its tree, if it is a filterset of its kind. If
-- it has faults, there are none.
pub data TextWarnings (form : Form) (groups : KnownGroups) (basis : Basis) (subjects : List Subject) (number : ℕ)
    (row : TextRow) (count : ℕ) (piece : Text) : Type 0 where
  of_filterset : (e : Tree SourceSpan) (unmatched : List Unmatched) (needless : List Found)
      → IsAccepted basis.packages groups row e
      → AreUnmatched basis subjects e unmatched → AreNeedless basis subjects e unmatched needless
      → count ≡ length (remarks_of unmatched needless)
      → Pieces (IsWritten (text_writing form row number)) (remarks_of unmatched needless) piece
      → TextWarnings form groups basis subjects number row count piece
  of_faulty : (faults : TextRefusal) → IsRefusedFor basis.packages groups row faults
      → count ≡ 0 → piece ≡ [] → TextWarnings form groups basis subjects number row count piece

-- the warnings of texts, of which the first has this number, and how many
pub data WarningsOf (form : Form) (groups : KnownGroups) (basis : Basis) (subjects : List Subject) :
    ℕ → List TextRow → ℕ → Text → Type 0 where
  no_texts : {n : ℕ} → WarningsOf form groups basis subjects n [] 0 []
  next_text : {n count others : ℕ} {row : TextRow} {rows : List TextRow} {front rest : Text}
      → TextWarnings form groups basis subjects n row count front
      → WarningsOf form groups basis subjects (suc n) rows others rest
      → WarningsOf form groups basis subjects n (row ∷ rows) (count + others) (front ++ rest)

-- of how many binaries the tests are not known, if there are any
abbrev pub skipped_line : ℕ → Text
skipped_line skipped =
    if skipped == 0 then []
    else if skipped == 1 then codes "not checked: tests of 1 skipped binary\n"
    else codes "not checked: tests of " ++ (decimal skipped ++ codes " skipped binaries\n")

-- for people that, and how many warnings there are
abbrev pub summary : Form → ℕ → ℕ → Text
summary (Drawn color) skipped count = skipped_line skipped ++ (codes "warnings: " ++ (decimal count ++ codes "\n"))
summary _ skipped count = []

-- ---- under a setting

-- how a command ends after this many warnings, if they are denied or not
abbrev pub warned_ending : Bool → ℕ → Ending
warned_ending denies count = if denies then (if count == 0 then Fine else Faulty) else Fine

abbrev pub is_skipped : AskedBinary → Bool
is_skipped binary = binary.is_skipped

-- What is written of texts under a setting: the warnings by the tests of these binaries, in the groups that they may be in,
-- and a summary. If a text of the setting has faults, it is nothing.
abbrev pub AnswersWarnings : Form → WarningEnd → Setting → List TextRow → List AskedBinary → Ending → Text → Type 0
AnswersWarnings form end setting rows binaries ending text =
    ((basis : SettingBasis setting) × (subjects : List Subject) × (count : ℕ) × (front : Text)
    × AreSubjects basis.default basis.overrides binaries subjects
    × WarningsOf form setting.groups.now (record { packages = setting.graph.now; default = basis.default }) subjects 1 rows count front
    × (text ≡ front ++ summary form (count_by is_skipped binaries) (end.before + count))
    × (ending ≡ warned_ending end.denies (end.before + count)))
    ⊎ ((faulty : ℕ) × (pieces : Text) × (faulty ≢ 0)
    × FaultsOf (HasRefusal setting.graph.now setting.groups.now) form 1 (setting_rows setting) faulty pieces
    × (text ≡ []) × (ending ≡ Fine))
