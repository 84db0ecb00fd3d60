-- Which group a record puts a test in.
use Rattle.std.specs.Prelude.{List, Option, None, Some, IsSomeAnd}
use Rattle.std.specs.{List.find, Str.bytes_eq}
use Rattle.filterset_matchers.specs.Matcher.{MatchesName}
use Rattle.filterset_expression.specs.{Expression.Lookup, declared.query.TestQuery.TestQuery}
use Rattle.filterset_json.specs.Shape.{Text}
use Rattle.filterset_cli.specs.Index.{group_with}
use Rattle.filterset_record.specs.{Record.BinaryRow, declared.record.binaries.BinaryEntry.BinaryEntry}

-- the matcher matches the group of the first test with the name that is asked about, in the first binary with the id
abbrev pub matches_recorded_group : List BinaryRow → Lookup
matches_recorded_group binaries query matcher =
    IsSomeAnd (find (λ (b : BinaryRow). bytes_eq b.id query.binary_query.binary_id.now) binaries) (λ binary.
    IsSomeAnd (find (λ t. bytes_eq t.name query.test_name.now) binary.tests) (λ test. MatchesName matcher test.group))

-- the group that the entries of a record put a test in: that of the first test with the name in the first binary with the id
abbrev pub group_in : Option BinaryEntry → Text → Option Text
group_in None name = None
group_in (Some binary) name = group_with name binary.tests.items

abbrev pub recorded_group : List BinaryEntry → TestQuery → Option Text
recorded_group binaries query =
    group_in (find (λ (b : BinaryEntry). bytes_eq b.id query.binary_query.binary_id.now) binaries) query.test_name.now
