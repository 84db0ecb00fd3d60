-- How two filtersets differ, as text.
use Rattle.std.specs.Prelude.{◌==◌, ◌&&◌, ◌||◌, ℕ, Bool, not, List, [], ◌++◌, length, codes, decimal, if◌then◌else◌}
use Rattle.std.specs.List.{count_by, flat_map, list_any, sum_by}
use Rattle.filterset_listing.specs.{Asking.Text, Comparing.is_of, Comparing.tests_in, ListText.some_text}
use Rattle.filterset_listing.specs.declared.comparing.{BinaryDifference.BinaryDifference, Part.Part}
use Rattle.filterset_listing.specs.declared.comparing.Part.TheVariants.{OnlyFirst, OnlySecond, Both, Unknown}

-- a heading with a number, and below it the lines, if they are asked for
abbrev pub counted_text : Bool → Text → ℕ → Text → Text
counted_text has_lines heading count lines =
    (heading ++ (codes ": " ++ (decimal count ++ codes "\n"))) ++ (if has_lines then lines else [])

-- a test after the id of its binary, in a line
abbrev pub named_line : Text → Text → Text
named_line id test = codes "    " ++ (id ++ (codes " " ++ (test ++ codes "\n")))

-- the tests of a part of a binary, a line each
abbrev pub named_lines : Part → BinaryDifference → Text
named_lines part difference = flat_map (named_line difference.binary.query.binary_id.now) (tests_in part difference)

-- how many tests are of the part, and which, if the names are asked for
abbrev pub part_text : Bool → Text → Part → List BinaryDifference → Text
part_text has_names heading part all =
    counted_text has_names heading (sum_by (λ d. length (tests_in part d)) all) (flat_map (named_lines part) all)

abbrev pub has_unknown : BinaryDifference → Bool
has_unknown difference = not (length difference.unknown.items == 0)

-- nextest skipped the binary, and the filtersets' answers about it are of this part
abbrev pub is_skipped_in : Part → BinaryDifference → Bool
is_skipped_in part difference = difference.binary.is_skipped && is_of part difference.first_answer difference.second_answer

-- the id of the binary, in a line, if it is of this part
abbrev pub id_line : Part → BinaryDifference → Text
id_line part d = if is_skipped_in part d then codes "    " ++ (d.binary.query.binary_id.now ++ codes "\n") else []

-- how many skipped binaries are of the part, unless there are none, and which, if the names are asked for
abbrev pub skipped_text : Bool → Text → Part → List BinaryDifference → Text
skipped_text has_names heading part all = if count_by (is_skipped_in part) all == 0 then [] else
    counted_text has_names heading (count_by (is_skipped_in part) all) (flat_map (id_line part) all)

-- the tests, and below them the binaries that nextest skipped, and how many tests do not count
abbrev pub comparison_text : Bool → List BinaryDifference → Text
comparison_text has_names all =
    part_text has_names (codes "only A") OnlyFirst all ++ (part_text has_names (codes "only B") OnlySecond all
    ++ (part_text has_names (codes "both") Both all ++ ((if list_any has_unknown all then part_text has_names (codes "unknown") Unknown all else [])
    ++ (skipped_text has_names (codes "skipped binaries that only A picks") OnlyFirst all
    ++ (skipped_text has_names (codes "skipped binaries that only B picks") OnlySecond all
    ++ (skipped_text has_names (codes "skipped binaries that were not compared") Unknown all
    ++ some_text (codes "left out by --run-ignored: ") (sum_by (λ (d : BinaryDifference). length d.binary.uncounted.now) all)
    (codes "\n")))))))

-- one filterset picks a test of the binary that the other does not, or may pick one that nextest did not list
abbrev pub differs : BinaryDifference → Bool
differs d = (not (length d.first.items == 0) || not (length d.second.items == 0))
    || ((is_skipped_in OnlyFirst d || is_skipped_in OnlySecond d) || is_skipped_in Unknown d)
