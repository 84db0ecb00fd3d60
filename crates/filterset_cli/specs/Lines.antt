-- The lines of a binary's tests.
use Rattle.std.specs.Prelude.{◌++◌, Bool, true, false, List, Option, Some, None, codes}
use Rattle.std.specs.List.{flat_map}
use Rattle.filterset_json.specs.Shape.{Text}
use Rattle.filterset_record.specs.declared.record.binaries.TestEntry.{TestEntry}

-- whether it is so, where None is that it depends on the test
abbrev pub answer_text : Option Bool → Text
answer_text (Some true) = codes "yes"
answer_text (Some false) = codes "no"
answer_text None = codes "unknown"

-- the line of a test of the binary with this id, which has this answer
abbrev pub test_line : Text → Bool → TestEntry → Text
test_line id answer test =
    codes "  test " ++ (id ++ (codes " " ++ (test.name ++ (codes ": " ++ (answer_text (Some answer) ++ codes "\n")))))

-- the lines of tests that all have this answer
abbrev pub lines_of : Text → Bool → List TestEntry → Text
lines_of id answer tests = flat_map (test_line id answer) tests
