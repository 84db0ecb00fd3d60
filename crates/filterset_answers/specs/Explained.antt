-- What `explain` writes.
use Rattle.std.specs.Prelude.{◌≡◌, ◌++◌, Bool, [], ◌∷◌, codes, if◌then◌else◌, is_some}
use Rattle.filterset_display.specs.{Columns.Text, declared.remark.Form.Form}
use Rattle.filterset_faults.specs.declared.span.SourceSpan.{SourceSpan}
use Rattle.filterset_grammar.specs.Tree.{Tree}
use Rattle.filterset_listing.specs.{Explaining.IsExplanation, ExplanationText.explanation_text}
use Rattle.filterset_listing.specs.declared.explaining.{Explanation.Explanation, candidate.Candidate.Candidate}
use Rattle.filterset_answers.specs.Compiled.{AnswersTexts, Basis, Telling}
use Rattle.filterset_entries.specs.{Endings.unknown_ending, Entries.test_row}
use Rattle.filterset_entries.specs.declared.{setting.Setting.Setting, text.Ending.Ending}

-- the value of each node of the tree, a line each, and the override that unknown ones depend on
abbrev pub ExplainsTree : Candidate → (setting : Setting) → Basis setting → Tree SourceSpan → Ending → Text → Type 0
ExplainsTree candidate setting basis tree ending text = (explanation : Explanation)
    × IsExplanation candidate basis.overrides setting.graph.now basis.default tree explanation
    × (text ≡ explanation_text explanation) × (ending ≡ unknown_ending (is_some explanation.unknown_platform))

abbrev pub ignored_line : Bool → Text
ignored_line is_ignored = if is_ignored then codes "ignored: not run without --run-ignored\n" else []

-- the answer is that of the one tree, and below it that the test is ignored, if it is
abbrev pub Explains : Candidate → Bool → (setting : Setting) → Telling setting
Explains candidate is_ignored setting basis (tree ∷ []) ending text = (explained : Text)
    × ExplainsTree candidate setting basis tree ending explained × (text ≡ explained ++ ignored_line is_ignored)
Explains candidate is_ignored setting basis _ ending text = ⊥

-- what the filterset is answered
abbrev pub AnswersExplanation : Form → Setting → Text → Candidate → Bool → Ending → Text → Type 0
AnswersExplanation form setting filter candidate is_ignored =
    AnswersTexts form setting (test_row (codes "-E") filter ∷ []) (Explains candidate is_ignored setting)
