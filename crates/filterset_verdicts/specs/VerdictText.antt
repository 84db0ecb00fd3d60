-- Verdicts as text.
use Rattle.std.specs.Prelude.{◌≡◌, ◌⊎◌, ◌==◌, ◌+◌, ◌++◌, ℕ, Bool, List, [], ◌∷◌, Contains, codes, decimal, if◌then◌else◌, string_bytes}
use Rattle.std.specs.List.{count_by, flat_map}
use Rattle.filterset_entries.specs.declared.text.Ending.{Ending}
use Rattle.filterset_entries.specs.declared.text.Ending.TheVariants.{Fine, Differing, Unknown}
use Rattle.filterset_deciding.specs.declared.{deciding.Verdict.Verdict, demand.Demand.Demand, demand.Doubt.Doubt}
use Rattle.filterset_deciding.specs.declared.{demand.TestField.TestField, question.Question.Question}
use Rattle.filterset_deciding.specs.declared.question.Question.TheVariants.{AllAlike, AtLeastOne, AtMostOne, ExactlyOne}
use Rattle.filterset_deciding.specs.declared.witness.{PossibleTest.PossibleTest, Witness.Witness}
use Rattle.filterset_deciding.specs.declared.deciding.Verdict.TheVariants as verdicts
use Rattle.filterset_deciding.specs.declared.demand.TestField.TheVariants as fields
use Rattle.filterset_display.specs.Columns.{Text}
use Rattle.filterset_graph.specs.{Packages.ids, Platforms.platform_text}
use Rattle.filterset_graph.specs.declared.package.PackageMetadata.{PackageMetadata}
use Rattle.filterset_matchers.specs.{Matchers.matcher_of, PrintedMatcher.printed_matcher}

-- the answer is always yes
abbrev pub held_text : Question → Text
held_text AllAlike = codes "same\n"
held_text AtLeastOne = codes "covered\n"
held_text AtMostOne = codes "disjoint\n"
held_text ExactlyOne = codes "partition\n"

-- the answer is no for some test
abbrev pub failed_text : Question → Text
failed_text AllAlike = codes "differ\n"
failed_text AtLeastOne = codes "not covered\n"
failed_text AtMostOne = codes "not disjoint\n"
failed_text ExactlyOne = codes "no partition\n"

-- it is unknown whether there is a test for which the answer is no
abbrev pub open_text : Question → Text
open_text AllAlike = codes "unknown: whether there is a test that some of them pick and others do not\n"
open_text AtLeastOne = codes "unknown: whether there is a test that none of them picks\n"
open_text AtMostOne = codes "unknown: whether there is a test that two of them pick\n"
open_text ExactlyOne = codes "unknown: whether there is a test that none of them picks, or that two of them pick\n"

-- the name of the package with this id, or the id if no package has it
abbrev pub IsPackageText : List PackageMetadata → Text → Text → Type 0
IsPackageText packages id text =
    ((p : PackageMetadata) × Contains packages p × (p.id ≡ id) × (text ≡ string_bytes p.name))
    ⊎ ((¬ Contains (ids packages) id) × (text ≡ id))

-- one line about a test
abbrev pub field_line : Text → Text → Text
field_line name value = codes "  " ++ (name ++ (codes ": " ++ (value ++ codes "\n")))

-- where the test comes from
abbrev pub origin_line : Bool → Text
origin_line is_listed = if is_listed then codes "a test of the list:\n" else codes "a possible test, which need not be in any list:\n"

-- a test, of the list or a possible one, of the package with this name
abbrev pub test_text : Bool → Text → PossibleTest → Text
test_text is_listed name test = origin_line is_listed ++ (field_line (codes "package") name
    ++ (field_line (codes "binary id") test.binary_id ++ (field_line (codes "binary") (string_bytes test.binary_name)
    ++ (field_line (codes "kind") test.kind ++ (field_line (codes "platform") (platform_text test.platform)
    ++ (field_line (codes "test") test.test_name ++ field_line (codes "group") (string_bytes test.group)))))))

-- a line for the filterset of this number, if it picks the test
abbrev pub picked_line : ℕ → Bool → Text
picked_line number is_picked = if is_picked then codes "picked by argument " ++ (decimal number ++ codes "\n") else []

-- a line for each filterset that picks the test, where the first has this number
abbrev pub picked_lines : ℕ → List Bool → Text
picked_lines number [] = []
picked_lines number (is_picked ∷ rest) = picked_line number is_picked ++ picked_lines (number + 1) rest

-- which filtersets pick the test
abbrev pub picked_text : List Bool → Text
picked_text picks = if count_by (λ x. x) picks == 0 then codes "picked by none\n" else picked_lines 1 picks

-- the test for which the answer to the question is no, and which filtersets pick it
abbrev pub IsWitnessText : Question → Bool → List PackageMetadata → Witness → Text → Type 0
IsWitnessText question is_listed packages witness text = (name : Text) × IsPackageText packages witness.test.package_id name
    × (text ≡ failed_text question ++ (test_text is_listed name witness.test ++ picked_text witness.picks.items))

-- the name of the predicate that asks about the text of a test
abbrev pub field_word : TestField → Text
field_word fields.Kind = codes "kind"
field_word fields.BinaryName = codes "binary"
field_word fields.BinaryId = codes "binary_id"
field_word fields.TestName = codes "test"
field_word fields.Group = codes "group"

-- what is demanded of a text of a test, as a predicate
abbrev pub demand_text : TestField → Demand → Text
demand_text field demand =
    (if demand.is_matched then [] else codes "not ")
    ++ (field_word field ++ (codes "(" ++ (printed_matcher (matcher_of demand.matcher.now) ++ codes ")")))

abbrev pub demand_line : TestField → Demand → Text
demand_line field demand = codes "  " ++ (demand_text field demand ++ codes "\n")

-- the answer is unknown, and what it depends on
abbrev pub doubt_text : Question → Doubt → Text
doubt_text question doubt =
    open_text question ++ (codes "it hangs on whether some test is in all of:\n" ++ flat_map (demand_line doubt.field) doubt.demands.items)

-- what is written about a verdict, whose test is one of the list or not
abbrev pub IsVerdictText : Question → Bool → List PackageMetadata → Verdict → Text → Type 0
IsVerdictText question is_listed packages verdicts.Always text = text ≡ held_text question
IsVerdictText question is_listed packages (verdicts.Fails witness) text = IsWitnessText question is_listed packages witness text
IsVerdictText question is_listed packages (verdicts.Unknown doubt) text = text ≡ doubt_text question doubt
IsVerdictText question is_listed packages verdicts.Stopped text =
    text ≡ open_text question ++ codes "the search took all steps of --budget\n"

-- how a command ends with this verdict
abbrev pub ending_of : Verdict → Ending
ending_of verdicts.Always = Fine
ending_of (verdicts.Fails witness) = Differing
ending_of (verdicts.Unknown doubt) = Unknown
ending_of verdicts.Stopped = Unknown
