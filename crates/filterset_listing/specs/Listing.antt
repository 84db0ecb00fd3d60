-- Which tests of a list are picked.
use Rattle.std.specs.Prelude.{◌≡◌, Bool, true, false, List, [], ◌∷◌, MatchBool, map}
use Rattle.std.specs.Borrow.{Bor}
use Rattle.filterset_expression.specs.declared.query.BinaryQuery.{BinaryQuery}
use Rattle.filterset_listing.specs.{Asking.Text, declared.binary.AskedBinary.AskedBinary}
use Rattle.filterset_listing.specs.declared.groups.TestAnswer.{TestAnswer, TheVariants.Known, TheVariants.Unknown}
use Rattle.filterset_listing.specs.declared.listing.BinaryPicks.{BinaryPicks}

-- the test, if the answer is yes
abbrev pub one_of : Bool → Text → List Text
one_of true test = test ∷ []
one_of false test = []

-- the tests whose answer is yes are picked, and those whose answer is unknown are unknown, each once and in their order
pub data Picked (Says : Text → TestAnswer → Type 0) : List Text → List Text → List (Text × Text) → Type 0 where
  no_tests : Picked Says [] [] []
  one_picked : {test : Text} {tests picked : List Text} {unknown : List (Text × Text)} → Says test (Known true)
      → Picked Says tests picked unknown → Picked Says (test ∷ tests) (test ∷ picked) unknown
  one_passed : {test : Text} {tests picked : List Text} {unknown : List (Text × Text)} → Says test (Known false)
      → Picked Says tests picked unknown → Picked Says (test ∷ tests) picked unknown
  one_unknown : {test : Text} {path : Bor Text} {tests picked : List Text} {unknown : List (Text × Text)}
      → Says test (Unknown path) → Picked Says tests picked unknown
      → Picked Says (test ∷ tests) picked ((test, path.now) ∷ unknown)

abbrev pub tests_of : BinaryPicks → List Text
tests_of picks = map (λ t. t.now) picks.tests.items

-- the tests that do not count
abbrev pub uncounted_of : BinaryPicks → List Text
uncounted_of picks = picks.binary.uncounted.now

-- the unknown tests, each with the path of the override that it depends on
abbrev pub unknown_of : BinaryPicks → List (Text × Text)
unknown_of picks = map (λ u. (u.test.now, u.path.now)) picks.unknown.items

-- what is listed of a test by the answer about it
abbrev pub picked_by : TestAnswer → Text → List Text
picked_by (Known true) test = test ∷ []
picked_by _ test = []

abbrev pub unknown_by : TestAnswer → Text → List (Text × Text)
unknown_by (Unknown path) test = (test, path.now) ∷ []
unknown_by _ test = []

-- What is picked of a binary. If no test of it can be picked, whatever the names and groups of its tests are, it is left
-- out. If one can, its tests are listed by the answers about them.
abbrev pub IsBinaryPicks :
    (BinaryQuery → Text → TestAnswer → Type 0) → (BinaryQuery → Type 0) → AskedBinary → BinaryPicks → Type 0
IsBinaryPicks Says CanPick binary picks = (picks.binary ≡ binary) × MatchBool picks.is_left_out
    ((tests_of picks ≡ []) × (unknown_of picks ≡ []) × ¬ CanPick binary.query
    × ((name : Text) → Says binary.query name (Known false)))
    (CanPick binary.query × Picked (Says binary.query) binary.tests.now (tests_of picks) (unknown_of picks))
