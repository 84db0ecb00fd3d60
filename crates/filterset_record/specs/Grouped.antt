-- Tests with their groups.
use Rattle.std.specs.{Prelude.◌≡◌, Prelude.◌↔◌, Prelude.IsTrue, Borrow.Bor}
use Rattle.filterset_expression.specs.{Expression.Lookup, declared.query.BinaryQuery.BinaryQuery}
use Rattle.filterset_graph.specs.declared.binary.TestCaseName.{TestCaseName}
use Rattle.filterset_matchers.specs.{Matcher.Matcher, Matcher.MatchesName, Matchers.matcher_of}
use Rattle.filterset_record.specs.Columns.{test_of}
use Rattle.filterset_record.specs.declared.groups.{GroupMatcher.GroupMatcher, GroupedTest.GroupedTest}

-- the binary's test with this name is in this group
abbrev pub IsGrouped : Lookup → BinaryQuery → GroupedTest → Type 0
IsGrouped lookup binary test = (name : Bor TestCaseName) (matcher : Matcher) → name.now ≡ test.name.now
    → lookup (test_of binary name) matcher ↔ MatchesName matcher test.group.now

-- the answer is whether the matcher matches the group
abbrev pub Knows : GroupMatcher → Type 0
Knows asked = IsTrue asked.answer ↔ MatchesName (matcher_of asked.matcher.now) asked.group.now
