-- Predicates that match no test of a list.
use Rattle.std.specs.Prelude.{◌≡◌, ◌==◌, ◌++◌, ◌∷◌, [], ℕ, Bool, false, List, Option, codes, decimal, if◌then◌else◌}
use Rattle.std.specs.{List.count_by, List.list_any, Option.is_none, Option.unwrap_or}
use Rattle.filterset_faults.specs.declared.span.SourceSpan.{SourceSpan}
use Rattle.filterset_grammar.specs.Printing.{printed_leaf}
use Rattle.filterset_grammar.specs.Tree.{Leaf, Tree, Not, Union, Join, Parens, Set}
use Rattle.filterset_listing.specs.{SubjectValues.Basis, SubjectValues.HasColumn, declared.subjects.Subject.Subject}

-- a predicate, and how many skipped binaries may have a test that it matches
abbrev pub Unmatched : Type 0
Unmatched = Leaf SourceSpan × ℕ

-- The predicate, if it is true of no test of the list, and of no skipped binary whatever its tests are. For the skipped
-- binaries whose tests may match it has no value.
abbrev pub unmatched_in : Leaf SourceSpan → List (Option Bool) → List Unmatched
unmatched_in leaf values = if list_any (λ v. unwrap_or v false) values then [] else (leaf, count_by is_none values) ∷ []

-- the predicates of a tree that match no test, from left to right, by their values for the subjects
abbrev pub AreUnmatched : Basis → List Subject → Tree SourceSpan → List Unmatched → Type 0
AreUnmatched basis subjects (Not op e) found = AreUnmatched basis subjects e found
AreUnmatched basis subjects (Union op l r) found = (left right : List Unmatched) × (found ≡ left ++ right)
    × AreUnmatched basis subjects l left × AreUnmatched basis subjects r right
AreUnmatched basis subjects (Join op l r) found = (left right : List Unmatched) × (found ≡ left ++ right)
    × AreUnmatched basis subjects l left × AreUnmatched basis subjects r right
AreUnmatched basis subjects (Parens e) found = AreUnmatched basis subjects e found
AreUnmatched basis subjects (Set leaf) found = (values : List (Option Bool))
    × HasColumn basis subjects (Set leaf) values × (found ≡ unmatched_in leaf values)

-- what is said of it: that it matches no test, and that this is not sure, if binaries were skipped
abbrev pub unmatched_ending : ℕ → List ℕ
unmatched_ending skipped =
    if skipped == 0 then codes "` matches no test"
    else if skipped == 1 then codes "` matches no test (1 binary was skipped; its tests are not known)"
    else codes "` matches no test (" ++ (decimal skipped ++ codes " binaries were skipped; their tests are not known)")

abbrev pub unmatched_message : Unmatched → List ℕ
unmatched_message found = codes "`" ++ (printed_leaf found.0 ++ unmatched_ending found.1)
