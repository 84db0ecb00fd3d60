-- Verdicts as JSON.
use Rattle.std.specs.Prelude.{◌≡◌, ◌+◌, ℕ, Bool, true, false, List, [], ◌∷◌, codes, if◌then◌else◌, map, string_bytes}
use Rattle.serde_json.specs.Data.{Data, array, boolean, member, no_members, null, number, object, string, unsigned}
use Rattle.serde_json.specs.View.{items_of}
use Rattle.filterset_deciding.specs.declared.deciding.Verdict.{Verdict}
use Rattle.filterset_deciding.specs.declared.demand.{Demand.Demand, Doubt.Doubt, TestField.TestField}
use Rattle.filterset_deciding.specs.declared.{question.Question.Question, witness.PossibleTest.PossibleTest}
use Rattle.filterset_deciding.specs.declared.deciding.Verdict.TheVariants as verdicts
use Rattle.filterset_deciding.specs.declared.question.Question.TheVariants.{AllAlike, AtLeastOne, AtMostOne, ExactlyOne}
use Rattle.filterset_display.specs.Columns.{Text}
use Rattle.filterset_graph.specs.{Platforms.platform_text, declared.package.PackageMetadata.PackageMetadata}
use Rattle.filterset_verdicts.specs.VerdictText.{IsPackageText, demand_text}

-- the numbers of the filtersets that pick the test, where the first has this number
abbrev pub picked_numbers : ℕ → List Bool → List ℕ
picked_numbers at [] = []
picked_numbers at (is_picked ∷ rest) = if is_picked then at ∷ picked_numbers (at + 1) rest else picked_numbers (at + 1) rest

abbrev pub number_item : ℕ → Data
number_item n = number (unsigned n)

-- a possible test, of the package with this name
abbrev pub test_data : Text → PossibleTest → Data
test_data name test = object (member (codes "binary") (string (string_bytes test.binary_name))
    (member (codes "binary_id") (string test.binary_id) (member (codes "group") (string (string_bytes test.group))
    (member (codes "kind") (string test.kind) (member (codes "name") (string test.test_name)
    (member (codes "package") (string name) (member (codes "platform") (string (platform_text test.platform)) no_members)))))))

-- what is demanded of a text of a test, as a predicate
abbrev pub demand_item : TestField → Demand → Data
demand_item field demand = string (demand_text field demand)

-- what the question is called
abbrev pub question_word : Question → Text
question_word AllAlike = codes "same"
question_word AtLeastOne = codes "cover"
question_word AtMostOne = codes "disjoint"
question_word ExactlyOne = codes "partition"

-- the answer, whether the budget was spent, what the answer depends on, whether the test is one of the list, which filtersets
-- pick it, the question, and the test
abbrev pub verdict_data : Text → Bool → Data → Data → Data → Question → Data → Data
verdict_data answer is_spent doubt listed picks question test = object (member (codes "answer") (string answer)
    (member (codes "budget_spent") (boolean is_spent) (member (codes "hangs_on") doubt (member (codes "listed") listed
    (member (codes "picked_by") picks (member (codes "question") (string (question_word question))
    (member (codes "test") test no_members)))))))

-- what is written about a verdict, whose test is one of the list or not
abbrev pub IsVerdictData : Question → Bool → List PackageMetadata → Verdict → Data → Type 0
IsVerdictData question is_listed packages verdicts.Always d = d ≡ verdict_data (codes "yes") false null null null question null
IsVerdictData question is_listed packages (verdicts.Fails witness) d =
    (name : Text) × IsPackageText packages witness.test.package_id name
    × (d ≡ verdict_data (codes "no") false null (boolean is_listed)
    (array (items_of (map number_item (picked_numbers 1 witness.picks.items)))) question (test_data name witness.test))
IsVerdictData question is_listed packages (verdicts.Unknown doubt) d =
    d ≡ verdict_data (codes "unknown") false (array (items_of (map (demand_item doubt.field) doubt.demands.items))) null null question null
IsVerdictData question is_listed packages verdicts.Stopped d =
    d ≡ verdict_data (codes "unknown") true null null null question null
