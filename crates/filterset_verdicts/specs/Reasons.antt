-- Why filtersets pick a test or not.
use Rattle.std.specs.Prelude.{◌≡◌, ◌+◌, ◌++◌, ℕ, true, List, [], ◌∷◌, Some, None, codes, decimal, string_bytes}
use Rattle.std.specs.{List.AllZip, List.flat_map, Str.Lines.lines}
use Rattle.filterset_answers.specs.Picking.{compiled_of, parsed_of}
use Rattle.filterset_deciding.specs.Deciding.{IsAbout}
use Rattle.filterset_deciding.specs.declared.deciding.Verdict.{Verdict, TheVariants.Fails}
use Rattle.filterset_display.specs.Columns.{Text}
use Rattle.filterset_expression.specs.Meaning.{IsCompiled}
use Rattle.filterset_expression.specs.declared.{expression.CompiledExpr.CompiledExpr, query.TestQuery.TestQuery}
use Rattle.filterset_faults.specs.declared.span.SourceSpan.{SourceSpan}
use Rattle.filterset_grammar.specs.Tree.{Tree}
use Rattle.filterset_graph.specs.declared.package.PackageMetadata.{PackageMetadata}
use Rattle.filterset_listing.specs.{Explaining.IsExplanation, ExplanationText.explanation_text}
use Rattle.filterset_listing.specs.declared.explaining.{Explanation.Explanation, candidate.Candidate.TheVariants.Test}
use Rattle.filterset_listing.specs.declared.groups.GroupOverride.{GroupOverride}
use Rattle.nextest_filtering.specs.declared.filterset.Filterset.{Filterset}

-- the override puts every test in this group
abbrev pub PutsAll : Text → GroupOverride → Type 0
PutsAll group over =
    (over.filter ≡ None) × (over.for_target ≡ Some true) × (over.for_host ≡ Some true) × (over.group.now ≡ group)

abbrev pub indented_line : Text → Text
indented_line line = codes "  " ++ (line ++ codes "\n")

-- the lines of what `explain` writes of the tree for the test in this group, moved in by two blanks
abbrev pub IsReason : List PackageMetadata → CompiledExpr → TestQuery → Text → Tree SourceSpan → Text → Type 0
IsReason packages default query group tree text = (over : GroupOverride) × (explanation : Explanation) × PutsAll group over
    × IsExplanation (Test query) (over ∷ []) packages default tree explanation
    × (text ≡ flat_map indented_line (lines (explanation_text explanation)))

-- the reasons of filtersets, where the first has this number
abbrev pub reason_lines : ℕ → List Text → Text
reason_lines number [] = []
reason_lines number (reason ∷ reasons) =
    (codes "argument " ++ (decimal number ++ (codes ":\n" ++ reason))) ++ reason_lines (number + 1) reasons

-- below a test, the reasons of each filterset; and nothing below another verdict
abbrev pub AreReasons : List PackageMetadata → CompiledExpr → List (Tree SourceSpan) → Verdict → Text → Type 0
AreReasons packages default trees (Fails witness) text = (query : TestQuery) × (reasons : List Text)
    × IsAbout query witness.test
    × AllZip (IsReason packages default query (string_bytes witness.test.group)) trees reasons × (text ≡ reason_lines 1 reasons)
AreReasons packages default trees verdict text = text ≡ []

-- ---- what only contracts of private functions cite

abbrev pub IsReasonOf : List PackageMetadata → CompiledExpr → TestQuery → Text → Filterset → Text → Type 0
IsReasonOf packages default query group filterset text = IsCompiled packages (parsed_of filterset) (compiled_of filterset)
    → IsReason packages default query group (parsed_of filterset) text
