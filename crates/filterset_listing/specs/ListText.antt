-- What is picked of a list, as text.
use Rattle.std.specs.Prelude.{◌==◌, ◌&&◌, ◌||◌, ℕ, zero, suc, Bool, not, List, [], ◌++◌, length, codes, decimal, if◌then◌else◌}
use Rattle.std.specs.List.{count_by, flat_map, sum_by}
use Rattle.filterset_listing.specs.{Asking.Text, Listing.uncounted_of}
use Rattle.filterset_listing.specs.declared.listing.{BinaryPicks.BinaryPicks, UnknownTest.UnknownTest}

-- tests are picked of the binary
abbrev pub has_tests : BinaryPicks → Bool
has_tests picks = not (length picks.tests.items == 0)

-- the answer about a test of it is unknown
abbrev pub has_unknown : BinaryPicks → Bool
has_unknown picks = not (length picks.unknown.items == 0)

-- nobody asked the binary for its tests, and it does not tell that none of them is picked
abbrev pub is_open : BinaryPicks → Bool
is_open picks = picks.binary.is_skipped && not picks.is_left_out

-- why a test is unknown, by the path of the override that it depends on; so it stands in nextest's list too
abbrev pub reason : Text → Text
reason path = codes "platform of " ++ path

abbrev pub unknown_line : UnknownTest → Text
unknown_line u = codes "    " ++ (u.test.now ++ (codes " (unknown: " ++ (reason u.path.now ++ codes ")\n")))

-- the binary's id, and under it the tests that are picked of it, a line each, or what stands in place of tests that nobody
-- asked for, and the unknown tests
abbrev pub shown_text : BinaryPicks → Text
shown_text picks = (picks.binary.query.binary_id.now ++ (codes ":\n" ++ (if is_open picks then codes "    (skipped)\n" else [])))
    ++ (flat_map (λ t. codes "    " ++ (t.now ++ codes "\n")) picks.tests.items ++ flat_map unknown_line picks.unknown.items)

-- the binary's part of the text; none if nothing would stand under the id
abbrev pub picks_text : BinaryPicks → Text
picks_text picks = if is_open picks || (has_tests picks || has_unknown picks) then shown_text picks else []

-- a count between two texts, unless it is 0
abbrev pub some_text : Text → ℕ → Text → Text
some_text before zero after = []
some_text before (suc n) after = before ++ (decimal (suc n) ++ after)

-- how many tests of how many binaries are picked, how many binaries are left out without asking, how many tests are
-- unknown, and how many do not count
abbrev pub counts_line : List BinaryPicks → Text
counts_line all = (codes "tests: " ++ (decimal (sum_by (λ (s : BinaryPicks). length s.tests.items) all)
    ++ (codes ", in binaries: " ++ (decimal (count_by has_tests all)
    ++ (codes ", binaries left out without asking: " ++ decimal (count_by (λ (s : BinaryPicks). s.is_left_out) all))))))
    ++ (some_text (codes ", unknown: ") (sum_by (λ (s : BinaryPicks). length s.unknown.items) all) []
    ++ (some_text (codes ", left out by --run-ignored: ") (sum_by (λ s. length (uncounted_of s)) all) [] ++ codes "\n"))

-- the parts of the binaries, in their order, and the counts
abbrev pub list_text : List BinaryPicks → Text
list_text all = flat_map picks_text all ++ counts_line all
