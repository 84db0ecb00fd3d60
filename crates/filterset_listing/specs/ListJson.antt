-- nextest's list as JSON, with what is picked of it.
use Rattle.std.specs.Prelude.{◌≡◌, ◌≢◌, ◌≤◌, true, false, List, Some, None, Contains, codes, drop, take, unwrap_or}
use Rattle.std.specs.{Borrow.Bor, BTreeMap.BTreeMap, BTreeMap.get_by, Cmp.Lexicographic.slice_cmp, List.flat_map}
use Rattle.std.specs.Ordering.{nat_cmp}
use Rattle.serde_json.specs.Data.{Data, string, object, Members, no_members, member, put, depth}
use Rattle.serde_json.specs.{Find.as_object, Read.read, Read.max_depth}
use Rattle.serde_json.specs.Written.{IsInOrder, compact_text, has_float}
use Rattle.filterset_listing.specs.{Asking.Text, Listing.tests_of, Listing.uncounted_of, Listing.unknown_of}
use Rattle.filterset_listing.specs.ListText.{reason}
use Rattle.filterset_listing.specs.declared.groups.TestAnswer.TheVariants.{Known, Unknown}
use Rattle.filterset_listing.specs.declared.listing.{BinaryPicks.BinaryPicks, json.TestMark.TestMark}
use Rattle.filterset_listing.specs.declared.listing.json.TestMark.TheVariants.{Asked, Beyond, Uncounted}

-- a status with a reason, as nextest writes it
abbrev pub reasoned : Text → Text → Data
reasoned why status = object (member (codes "reason") (string why) (member (codes "status") (string status) no_members))

-- what is said of a test, as nextest writes it
abbrev pub match_data : TestMark → Data
match_data Uncounted = reasoned (codes "ignored") (codes "mismatch")
match_data Beyond = reasoned (codes "default-filter") (codes "mismatch")
match_data (Asked (Known true)) = object (member (codes "status") (string (codes "matches")) no_members)
match_data (Asked (Known false)) = reasoned (codes "expression") (codes "mismatch")
match_data (Asked (Unknown path)) = reasoned (reason path.now) (codes "unknown")

-- an object became another one, and any other value stays as it is
pub data MarksObject (Marks : Members → Members → Type 0) : Data → Data → Type 0 where
  an_object : {before after : Members} → Marks before after → MarksObject Marks (object before) (object after)
  no_object : {value : Data} → as_object value ≡ None → MarksObject Marks value value

-- each member became another one of the same name
pub data MarksEach (Marks : Text → Data → Data → Type 0) : Members → Members → Type 0 where
  no_member : MarksEach Marks no_members no_members
  next_member : {name : Text} {before after : Data} {members others : Members} → Marks name before after
      → MarksEach Marks members others → MarksEach Marks (member name before members) (member name after others)

-- the value under the key becomes another one, and that under any other name stays as it is
abbrev pub MarksUnder : Text → (Data → Data → Type 0) → Text → Data → Data → Type 0
MarksUnder key Marks name before after = (name ≡ key → Marks before after) × (name ≢ key → after ≡ before)

-- the test counts, and is none of the unknown ones
abbrev pub IsKnown : List Text → List (Text × Text) → Text → Type 0
IsKnown uncounted unknown name = ¬ Contains uncounted name × ((path : Text) → ¬ Contains unknown (name, path))

-- What is said of the test of this name: that it does not count, if it is one of the first tests; or else that it is unknown,
-- if it is one of those; or else that it is picked, or picked only beyond the default filter, or not at all.
abbrev pub IsMarked : List Text → List Text → List Text → List (Text × Text) → Text → TestMark → Type 0
IsMarked uncounted beyond picked unknown name Uncounted = Contains uncounted name
IsMarked uncounted beyond picked unknown name (Asked (Unknown path)) =
    ¬ Contains uncounted name × Contains unknown (name, path.now)
IsMarked uncounted beyond picked unknown name (Asked (Known true)) =
    IsKnown uncounted unknown name × Contains picked name
IsMarked uncounted beyond picked unknown name Beyond =
    IsKnown uncounted unknown name × ¬ Contains picked name × Contains beyond name
IsMarked uncounted beyond picked unknown name (Asked (Known false)) =
    IsKnown uncounted unknown name × ¬ Contains picked name × ¬ Contains beyond name

-- the mark in the map of the test of this name; a test that has none is not picked
abbrev pub answer_in : BTreeMap (Bor Text) TestMark → Text → TestMark
answer_in answers name = unwrap_or (get_by (λ key. slice_cmp nat_cmp name key.now) answers) (Asked (Known false))

-- the map says so of each test
abbrev pub AreAnswers : List Text → List Text → List Text → List (Text × Text) → BTreeMap (Bor Text) TestMark → Type 0
AreAnswers uncounted beyond picked unknown answers =
    (name : Text) → IsMarked uncounted beyond picked unknown name (answer_in answers name)

-- what is said of a test by the picks of its binary, and by those beyond the default filter
abbrev pub IsSaid : List BinaryPicks → List BinaryPicks → Text → TestMark → Type 0
IsSaid first beyond =
    IsMarked (flat_map uncounted_of first) (flat_map tests_of beyond) (flat_map tests_of first) (flat_map unknown_of first)

-- a test says so
abbrev pub MarksTest : TestMark → Data → Data → Type 0
MarksTest mark = MarksObject (λ old new. new ≡ put (codes "filter-match") (match_data mark) old)

-- each test of a suite says so
abbrev pub MarksSuite : (Text → TestMark → Type 0) → Data → Data → Type 0
MarksSuite Says = MarksObject (MarksEach (MarksUnder (codes "testcases") (MarksObject (MarksEach (λ name before after.
    (mark : TestMark) × Says name mark × MarksTest mark before after)))))

-- each test of the suites says so, where the first picks are those of the first suite; no test of a suite without picks is
-- picked
pub data MarksSuites : List BinaryPicks → List BinaryPicks → Members → Members → Type 0 where
  no_suites : {all beyond : List BinaryPicks} → MarksSuites all beyond no_members no_members
  next_suite : {all beyond : List BinaryPicks} {id : Text} {before after : Data} {members others : Members}
      → MarksSuite (IsSaid (take 1 all) (take 1 beyond)) before after → MarksSuites (drop 1 all) (drop 1 beyond) members others
      → MarksSuites all beyond (member id before members) (member id after others)

-- each test of a list says so, and all else stays as nextest wrote it
abbrev pub MarksList : List BinaryPicks → List BinaryPicks → Data → Data → Type 0
MarksList all beyond = MarksObject (MarksEach (MarksUnder (codes "rust-suites") (MarksObject (MarksSuites all beyond))))

-- The text is compact JSON of the value: members in their order and no white space. If the value has floats, whose digits
-- are not known, its members stand in their order and the text reads back.
pub record IsCompactJson (value : Data) (text : Text) : Type 0 where
  pub bytes : has_float value ≡ false → text ≡ compact_text value
  pub in_order : IsInOrder text value
  pub reads_back : depth value ≤ max_depth → read text ≡ Some value

-- the text is compact JSON of the list with what is picked of it
abbrev pub IsListJson : List BinaryPicks → List BinaryPicks → Data → Text → Type 0
IsListJson all beyond list text = (marked : Data) × MarksList all beyond list marked × IsCompactJson marked text
