-- The groups that a record puts tests in.
use Rattle.std.proofs.Common.{◌≡◌, ◌↔◌, true, false, Bool, cond, List, [], ◌∷◌, map, Option, None, Some, ◌∙◌, ap, subst, sym, refl}
use Rattle.std.specs.{Prelude.IsSomeAnd, Prelude.option_map, Prelude.string_bytes, List.find, Str.bytes_eq}
use Rattle.filterset_matchers.specs.Matcher.{Matcher, MatchesName}
use Rattle.filterset_expression.proofs.Meanings.{alike}
use Rattle.filterset_expression.specs.declared.query.{BinaryQuery.BinaryQuery, TestQuery.TestQuery}
use Rattle.filterset_record.specs.{Columns.test_of, Grouped.IsGrouped, declared.groups.GroupedTest.GroupedTest}
use Rattle.filterset_record.specs.{Record.BinaryRow, Record.TestRow, Rows.binary_row, Rows.test_row}
use Rattle.filterset_record.specs.declared.record.binaries.{BinaryEntry.BinaryEntry, TestEntry.TestEntry}
use Rattle.filterset_json.specs.Shape.{Text}
use Rattle.filterset_cli.specs.{Index.group_with, Lookup.group_in, Lookup.matches_recorded_group, Lookup.recorded_group}

-- what is found among the mapped is what the mapped of the found is
mapped_step : {A B : Type 0} (f : A → B) (b : Bool) (x : A) (found : Option B) (rest : Option A) → found ≡ option_map f rest →
    cond b (Some (f x)) found ≡ option_map f (cond b (Some x) rest)
mapped_step f true x found rest same = refl
mapped_step f false x found rest same = same

find_mapped : {A B : Type 0} (f : A → B) (test : B → Bool) (xs : List A) → find test (map f xs) ≡ option_map f (find (λ x. test (f x)) xs)
find_mapped f test [] = refl
find_mapped f test (x ∷ xs) = mapped_step f (test (f x)) x (find test (map f xs)) (find (λ x. test (f x)) xs) (find_mapped f test xs)

-- the matcher matches the group that the entries put the test in
of_test : (matcher : Matcher) (found : Option TestEntry)
    → IsSomeAnd (option_map (λ (t : TestEntry). string_bytes t.group) found) (MatchesName matcher) ↔ IsSomeAnd (option_map test_row found) (λ (test : TestRow). MatchesName matcher test.group)
of_test matcher None = alike ⊥
of_test matcher (Some test) = alike (MatchesName matcher (string_bytes test.group))

of_binary : (name : Text) (matcher : Matcher) (found : Option BinaryEntry) → IsSomeAnd (group_in found name) (MatchesName matcher)
    ↔ IsSomeAnd (option_map binary_row found) (λ (binary : BinaryRow). IsSomeAnd (find (λ (t : TestRow). bytes_eq t.name name) binary.tests) (λ (test : TestRow). MatchesName matcher test.group))
of_binary name matcher None = alike ⊥
of_binary name matcher (Some binary) =
    let tests = binary.tests.items in
    subst (λ (found : Option TestRow). IsSomeAnd (group_with name tests) (MatchesName matcher) ↔ IsSomeAnd found (λ (test : TestRow). MatchesName matcher test.group))
    (sym (find_mapped test_row (λ (t : TestRow). bytes_eq t.name name) tests)) (of_test matcher (find (λ (t : TestEntry). bytes_eq t.name name) tests))

pub recorded : (binaries : List BinaryEntry) (query : TestQuery) (matcher : Matcher)
    → IsSomeAnd (recorded_group binaries query) (MatchesName matcher) ↔ matches_recorded_group (map binary_row binaries) query matcher
recorded binaries query matcher =
    let id = query.binary_query.binary_id.now in
    let Has = λ (binary : BinaryRow). IsSomeAnd (find (λ (t : TestRow). bytes_eq t.name query.test_name.now) binary.tests) (λ (test : TestRow). MatchesName matcher test.group) in
    subst (λ (found : Option BinaryRow). IsSomeAnd (recorded_group binaries query) (MatchesName matcher) ↔ IsSomeAnd found Has)
    (sym (find_mapped binary_row (λ (b : BinaryRow). bytes_eq b.id id) binaries)) (of_binary query.test_name.now matcher (find (λ (b : BinaryEntry). bytes_eq b.id id) binaries))

-- a listed test of the first binary with the id is in its group
pub listed_group : (binaries : List BinaryEntry) (asked : BinaryQuery) (binary : BinaryEntry) (test : GroupedTest)
    → find (λ (b : BinaryEntry). bytes_eq b.id asked.binary_id.now) binaries ≡ Some binary
    → group_with test.name.now binary.tests.items ≡ Some test.group.now → IsGrouped (matches_recorded_group (map binary_row binaries)) asked test
listed_group binaries asked binary test found is name matcher named =
    let own : recorded_group binaries (test_of asked name) ≡ Some test.group.now =
    ap (λ (b : Option BinaryEntry). group_in b name.now) found ∙ ap (λ (n : Text). group_with n binary.tests.items) named ∙ is in
    let same = recorded binaries (test_of asked name) matcher in (
      λ held. subst (λ (o : Option Text). IsSomeAnd o (MatchesName matcher)) own (same.1 held),
      λ held. same.0 (subst (λ (o : Option Text). IsSomeAnd o (MatchesName matcher)) (sym own) held),
    )
