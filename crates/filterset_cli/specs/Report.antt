-- Which reports, and which outcomes, a record may have.
use Rattle.std.specs.Prelude.{◌≡◌, ◌⊎◌, ◌↔◌, ◌++◌, ◌&&◌, Bool, true, false, IsTrue, ℕ, suc, List, [], ◌∷◌, length, Option, Some, MatchOption, codes, decimal}
use Rattle.std.specs.{List.flat_map, Option.option_map_or, Str.IsUtf8}
use Rattle.serde_json.specs.{Data.Data, Read.read}
use Rattle.filterset_graph.specs.Packages.{ids, AllDiffer, IsFirstRepeat, LinksKnown, IsFirstUnknownLink}
use Rattle.filterset_graph.specs.declared.package.PackageMetadata.{PackageMetadata}
use Rattle.filterset_grammar.specs.{Tree.Tree, Printing.printed}
use Rattle.filterset_faults.specs.Faults.{code_of, span_of, label_of, help_of}
use Rattle.filterset_faults.specs.Span.{offset_of, length_of}
use Rattle.filterset_faults.specs.declared.{span.SourceSpan.SourceSpan, error.ParseSingleError.ParseSingleError}
use Rattle.filterset_faults.specs.declared.kind.FiltersetKind.TheVariants as kinds
use Rattle.filterset_json.specs.{Shape.Text, Pieces.Pieces}
use Rattle.filterset_record.specs.Record.{BinaryRow, FiltersetRow, TestRow, RecordRow, IsRecord}
use Rattle.filterset_record.specs.declared.record.commands.Command.{Command}
use Rattle.filterset_cli.specs.{Library.Background, Library.IsAboutBinary, Lines.answer_text}
use Rattle.filterset_cli.specs.{Lookup.matches_recorded_group, declared.report.ReportOutcome.ReportOutcome}
use Rattle.filterset_cli.specs.declared.report.ReportOutcome.TheVariants.{AllAccepted, SomeRefused, RecordRefused}
use Rattle.nextest_filtering.specs.{Compiling.IsFiltersetOf, Compiling.IsRefusedWith, Formatting.PrintsFilterset}
use Rattle.nextest_filtering.specs.{declared.compile.context.KnownGroups.KnownGroups, Groups.AreGroups}
use Rattle.filterset_expression.specs.BinaryMeaning.{IsDefiniteTree, IsUndecidedTree}
use Rattle.filterset_expression.specs.Meaning.{IsCompiled, Meaning}
use Rattle.filterset_expression.specs.declared.expression.CompiledExpr.{CompiledExpr}
use Rattle.filterset_expression.specs.declared.query.{BinaryQuery.BinaryQuery, TestQuery.TestQuery}
use Rattle.filterset_record.specs.declared.record.commands.Command.TheVariants as commands

-- ---- an accepted filterset

-- the line of a test, which says whether the tree is true of it
abbrev pub TestLine : Background → Tree SourceSpan → BinaryRow → TestRow → Text → Type 0
TestLine background tree binary test line = (query : TestQuery) × (answer : Bool)
    × IsAboutBinary query.binary_query binary × (query.test_name.now ≡ test.name)
    × (IsTrue answer ↔ Meaning tree background.packages query background.default
    (matches_recorded_group background.binaries))
    × (line ≡ codes "  test " ++ (binary.id ++ (codes " "
    ++ (test.name ++ (codes ": " ++ (answer_text (Some answer) ++ codes "\n"))))))

-- The line of a binary, which says the one value that the tree takes for it, or that it takes both; and after it the
-- lines of its tests.
abbrev pub BinaryLines : Background → Tree SourceSpan → BinaryRow → Text → Type 0
BinaryLines background tree binary lines = (query : BinaryQuery) × (answer : Option Bool) × (tests : Text)
    × IsAboutBinary query binary × Pieces (TestLine background tree binary) binary.tests tests
    × MatchOption answer (IsUndecidedTree tree background.packages query background.default)
    (IsDefiniteTree tree background.packages query background.default)
    × (lines ≡ (codes "  binary " ++ (binary.id ++ (codes ": " ++ (answer_text answer ++ codes "\n")))) ++ tests)

-- the line of a filterset with which this was done
abbrev pub printed_line : Text → ℕ → Tree SourceSpan → Text
printed_line done index tree =
    codes "filterset " ++ (decimal index ++ (codes " " ++ (done ++ (codes ": " ++ (printed tree ++ codes "\n")))))

-- What is written of an accepted filterset with this tree. For a report it is that it is accepted, and what it says of
-- the binaries and their tests. To format it, it is its text as the tree prints alone; and that text is a filterset of
-- the same kind, by the same tree.
abbrev pub Accepted : Command → Background → ℕ → FiltersetRow → Tree SourceSpan → Text → Type 0
Accepted commands.Report background index filterset tree section =
    (lines : Text) × (section ≡ printed_line (codes "accepted") index tree ++ lines)
    × Pieces (BinaryLines background tree) background.binaries lines
Accepted commands.Format background index filterset tree section =
    (section ≡ printed_line (codes "formatted") index tree)
    × PrintsFilterset filterset.kind background.packages background.groups tree

-- ---- a refused filterset

-- offset and length
abbrev pub span_text : SourceSpan → Text
span_text span = decimal (offset_of span) ++ (codes " " ++ (decimal (length_of span) ++ codes " "))

-- the lines of a fault, with its span, label and help if it has them
abbrev pub fault_lines : ParseSingleError → Text
fault_lines fault =
    codes "  fault " ++ (option_map_or span_text (span_of fault) [] ++ (code_of fault
    ++ (option_map_or (λ label. codes ": " ++ label) (label_of fault) [] ++ (codes "\n"
    ++ option_map_or (λ help. codes "  help: " ++ (help ++ codes "\n")) (help_of fault) []))))

-- how many faults there are, and their lines
abbrev pub faults_text : List ParseSingleError → Text
faults_text faults = decimal (length faults) ++ (codes "\n" ++ flat_map fault_lines faults)

-- ---- all filtersets

-- what is written of the filterset at this position, and whether it is accepted
abbrev pub Section : Command → Background → ℕ → FiltersetRow → Bool → Text → Type 0
Section command background index filterset true section = (tree : Tree SourceSpan)
    × IsFiltersetOf filterset.text filterset.kind background.packages background.groups tree
    × Accepted command background index filterset tree section
Section command background index filterset false section = (faults : List ParseSingleError)
    × IsRefusedWith filterset.text filterset.kind background.packages background.groups faults
    × (section ≡ codes "filterset " ++ (decimal index ++ (codes " refused: " ++ faults_text faults)))

-- what is written of filtersets, of which the first has this position, and whether all of them are accepted
pub data Sections (command : Command) (background : Background) : ℕ → List FiltersetRow → Bool → Text → Type 0 where
  no_sections : {index : ℕ} → Sections command background index [] true []
  next_section : {index : ℕ} {filterset : FiltersetRow} {filtersets : List FiltersetRow} {rest : Text}
      (accepted others : Bool) (front : Text)
      → Section command background index filterset accepted front
      → Sections command background (suc index) filtersets others rest
      → Sections command background index (filterset ∷ filtersets) (accepted && others) (front ++ rest)

-- ---- the record

-- the bytes are UTF-8 and JSON, and this is their value
abbrev pub IsJson : Text → Data → Type 0
IsJson input d = IsUtf8 input × (read input ≡ Some d)

-- The line that refuses these packages. It names the first position whose id is at an earlier position too; or, where
-- no id is repeated, the first position of a package, and in it the first position of a link, that names no package.
abbrev pub PackagesLine : List PackageMetadata → Text → Type 0
PackagesLine packages output =
    ((at : ℕ) × IsFirstRepeat (ids packages) at
    × (output ≡ codes "record refused: repeated package id at " ++ (decimal at ++ codes "\n")))
    ⊎ ((owner : ℕ) × (link : ℕ) × AllDiffer (ids packages) × IsFirstUnknownLink packages owner link
    × (output ≡ codes "record refused: unknown link "
    ++ (decimal link ++ (codes " of package " ++ (decimal owner ++ codes "\n")))))

-- the lines that refuse the default filter, over packages that make a graph
abbrev pub DefaultLines : RecordRow → Text → Type 0
DefaultLines row output = (groups : KnownGroups) × (faults : List ParseSingleError)
    × AllDiffer (ids row.packages) × LinksKnown row.packages × AreGroups row.groups groups
    × IsRefusedWith row.default_filter kinds.DefaultFilter row.packages groups faults
    × (output ≡ codes "default refused: " ++ faults_text faults)

-- The packages make a graph, and the default filter is a filterset by this tree. This is written of the filtersets, and
-- tells whether all of them are accepted: they are read against the packages and groups, and asked about the binaries
-- with what the tree is compiled to.
abbrev pub Account : RecordRow → Text → Bool → Type 0
Account row output all = (groups : KnownGroups) × (tree : Tree SourceSpan) × (default : CompiledExpr)
    × AllDiffer (ids row.packages) × LinksKnown row.packages × AreGroups row.groups groups
    × IsFiltersetOf row.default_filter kinds.DefaultFilter row.packages groups tree
    × IsCompiled row.packages tree default
    × Sections row.command
    (record { packages = row.packages; groups = groups; default = default; binaries = row.binaries })
    0 row.filtersets all output

-- how a run ends whose filtersets were read
abbrev pub outcome_of : Bool → ReportOutcome
outcome_of true = AllAccepted
outcome_of false = SomeRefused

-- the exit status for an outcome
abbrev pub status_of : ReportOutcome → ℕ
status_of AllAccepted = 0
status_of SomeRefused = 1
status_of RecordRefused = 2

-- which reports, and which outcomes, a record with these parts may have
abbrev pub RecordReport : RecordRow → Text → ReportOutcome → Type 0
RecordReport row output AllAccepted = Account row output true
RecordReport row output SomeRefused = Account row output false
RecordReport row output RecordRefused = PackagesLine row.packages output ⊎ DefaultLines row output

-- which reports, and which outcomes, an input may have: the line of one that is no JSON, the line of one that is no
-- record, and else what its record may have
pub data Report (input output : Text) (outcome : ReportOutcome) : Type 0 where
  no_json : ((d : Data) → ¬ (IsJson input d)) → output ≡ codes "record refused: not JSON\n" → outcome ≡ RecordRefused
      → Report input output outcome
  no_record : (d : Data) → IsJson input d → ((row : RecordRow) → ¬ (IsRecord d row))
      → output ≡ codes "record refused: not a record\n" → outcome ≡ RecordRefused → Report input output outcome
  of_record : (d : Data) → (row : RecordRow) → IsJson input d → IsRecord d row → RecordReport row output outcome
      → Report input output outcome
