-- What `format` and `simplify` write about texts.
use Rattle.std.specs.Prelude.{◌≡◌, ◌≢◌, ◌++◌, Bool, true, false, ℕ, List, [], codes}
use Rattle.filterset_display.specs.Columns.{Text}
use Rattle.filterset_faults.specs.declared.span.SourceSpan.{SourceSpan}
use Rattle.filterset_grammar.specs.{Printing.printed, Tree.Tree}
use Rattle.filterset_json.specs.Pieces.{Pieces}
use Rattle.filterset_display.specs.declared.remark.Form.{Form}
use Rattle.filterset_entries.specs.Checked.{HasReadingFaults, TextRow}
use Rattle.filterset_answers.specs.Answers.{FaultsOf}
use Rattle.filterset_deciding.specs.Simplifying.Simplified.{IsSimplified}
use Rattle.filterset_rewriting.specs.Reading.{IsRead}
use Rattle.filterset_asking.specs.declared.formatting.Rewriting.{Rewriting, TheVariants.Printed, TheVariants.Simplified}

-- a tree as it is to be printed: as it is, or simplified
abbrev pub IsRewritten : Rewriting → Tree SourceSpan → Tree SourceSpan → Type 0
IsRewritten Printed e d = d ≡ e
IsRewritten Simplified e d = IsSimplified e d

-- the line of a text that reads as a tree: the tree as it prints, or simplified
abbrev pub FormattedLine : Rewriting → TextRow → Text → Type 0
FormattedLine rewriting row line = (e : Tree SourceSpan) × (d : Tree SourceSpan) × IsRead row.text e
    × IsRewritten rewriting e d × (line ≡ printed d ++ codes "\n")

-- what is written of a text that has faults or not: nothing, or its line
abbrev pub FormattedPart : Rewriting → Bool → TextRow → Text → Type 0
FormattedPart rewriting true row line = line ≡ []
FormattedPart rewriting false row line = FormattedLine rewriting row line

-- What is answered: how many of the texts have faults as the parser reads them. Where none has, each is written as its tree
-- prints, or simplified, in a line of its own; else what is written are the faults, and nothing else.
abbrev pub RewritesTexts : Rewriting → Form → List TextRow → ℕ → Text → Type 0
RewritesTexts rewriting form rows faulty text =
    (pieces : Text) × FaultsOf HasReadingFaults form 1 rows faulty pieces
    × (faulty ≡ 0 → Pieces (FormattedLine rewriting) rows text) × (faulty ≢ 0 → text ≡ pieces)

-- what formatting texts answers
abbrev pub FormatsTexts : Form → List TextRow → ℕ → Text → Type 0
FormatsTexts form rows faulty text = RewritesTexts Printed form rows faulty text

-- what simplifying texts answers
abbrev pub SimplifiesTexts : Form → List TextRow → ℕ → Text → Type 0
SimplifiesTexts form rows faulty text = RewritesTexts Simplified form rows faulty text
