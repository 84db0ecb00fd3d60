-- Indexes of a record's binaries by their ids, and of a binary's tests by their names.
use Rattle.std.specs.Prelude.{◌≡◌, All, List, Option, Some, option_map, string_bytes}
use Rattle.std.specs.{Borrow.Bor, BTreeMap.BTreeMap, BTreeMap.get_by, Cmp.Lexicographic.slice_cmp, List.find}
use Rattle.std.specs.{Ordering.nat_cmp, Str.bytes_eq}
use Rattle.filterset_record.specs.declared.groups.GroupedTest.{GroupedTest}
use Rattle.filterset_json.specs.Shape.{Text}
use Rattle.filterset_record.specs.declared.record.binaries.TestEntry.{TestEntry}

-- what the index has under this text
abbrev pub entry_at : {V : Type 0} → BTreeMap (Bor Text) V → Text → Option V
entry_at index text = get_by (λ key. slice_cmp nat_cmp text key.now) index

-- under each text the index has the first item with that text; an item's text is what `text_of` gives, and what the index
-- has of an item is seen by `item_of`
abbrev pub IsIndexOf : {A V : Type 0} → (A → Text) → (V → A) → List A → BTreeMap (Bor Text) V → Type 0
IsIndexOf text_of item_of items index =
    (text : Text) → option_map item_of (entry_at index text) ≡ find (λ item. bytes_eq (text_of item) text) items

-- what the index has under a name is the first test with that name; it may have none where there is one
abbrev pub HasFirsts : List TestEntry → BTreeMap (Bor Text) (Bor TestEntry) → Type 0
HasFirsts tests index = (name : Text) (test : Bor TestEntry)
    → entry_at index name ≡ Some test → find (λ t. bytes_eq t.name name) tests ≡ Some test.now

-- the group of the first test with a name
abbrev pub group_with : Text → List TestEntry → Option Text
group_with name tests = option_map (λ (t : TestEntry). string_bytes t.group) (find (λ t. bytes_eq t.name name) tests)

-- each listed test is in the group of the first test with its name
abbrev pub HaveGroups : List TestEntry → List GroupedTest → Type 0
HaveGroups tests grouped = All (λ test. group_with test.name.now tests ≡ Some test.group.now) grouped
