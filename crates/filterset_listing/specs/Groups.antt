-- Which groups a test may be in, by overrides, and what a filterset answers about it.
use Rattle.std.specs.Prelude.{◌≡◌, ◌↔◌, ◌⊎◌, Bool, true, IsTrue, List, [], ◌∷◌, Option, Some, None, MatchOption, codes}
use Rattle.filterset_graph.specs.declared.package.BuildPlatform.{BuildPlatform, TheVariants.Host, TheVariants.Target}
use Rattle.filterset_expression.specs.declared.expression.CompiledExpr.{CompiledExpr}
use Rattle.filterset_expression.specs.declared.query.{BinaryQuery.BinaryQuery, TestQuery.TestQuery}
use Rattle.filterset_listing.specs.{Asking.ExprPicks, Asking.Text, declared.groups.GroupOverride.GroupOverride}
use Rattle.filterset_listing.specs.declared.groups.TestAnswer.{TestAnswer, TheVariants.Known, TheVariants.Unknown}

-- whether the override's platforms apply to what is built for this one; none if that is unknown
abbrev pub applies : GroupOverride → BuildPlatform → Option Bool
applies over Target = over.for_target
applies over Host = over.for_host

-- the override's filter picks the test, where this is the default filter; without a filter it picks every test
abbrev pub Covers : CompiledExpr → GroupOverride → TestQuery → Type 0
Covers default over test = MatchOption over.filter (Unit {0}) (λ f. ExprPicks default f.now test (codes "@global"))

-- its filter picks the test, and this is whether its platforms apply to the test's binary
abbrev pub Applies : CompiledExpr → TestQuery → GroupOverride → Option Bool → Type 0
Applies default test over value = Covers default over test × (applies over test.binary_query.platform ≡ value)

-- The groups that a test may be in: the group of the first override that surely applies, or `@global` if there is none,
-- and the groups of earlier overrides that pick the test and whose platforms are unknown.
abbrev pub MayBeIn : CompiledExpr → List GroupOverride → TestQuery → Text → Type 0
MayBeIn default [] test group = group ≡ codes "@global"
MayBeIn default (over ∷ overrides) test group =
    ((Applies default test over (Some true) ⊎ Applies default test over None) × (group ≡ over.group.now))
    ⊎ (¬ Applies default test over (Some true) × MayBeIn default overrides test group)

-- this is the path of the first override that picks the test and whose platforms are unknown
abbrev pub HangsOn : CompiledExpr → List GroupOverride → TestQuery → Text → Type 0
HangsOn default [] test path = ⊥
HangsOn default (over ∷ overrides) test path = (Applies default test over None × (path ≡ over.path.now))
    ⊎ (¬ Applies default test over None × HangsOn default overrides test path)

-- The answer about a test: known if it is the same for each group that the test may be in. If it is so for one group and
-- not for another, the answer is unknown, and depends on the override at this path.
abbrev pub IsAnswer : CompiledExpr → List GroupOverride → TestQuery → (Text → Type 0) → TestAnswer → Type 0
IsAnswer default overrides test Is (Known answer) = (g : Text) → MayBeIn default overrides test g → IsTrue answer ↔ Is g
IsAnswer default overrides test Is (Unknown path) = HangsOn default overrides test path.now
    × ((g : Text) × MayBeIn default overrides test g × Is g) × ((g : Text) × MayBeIn default overrides test g × ¬ Is g)

-- the answer about the test of the binary with this name; `Picks` says whether a test is picked in a group
abbrev pub Says :
    CompiledExpr → List GroupOverride → (TestQuery → Text → Type 0) → BinaryQuery → Text → TestAnswer → Type 0
Says default overrides Picks binary name answer = (test : TestQuery) → test.binary_query ≡ binary
    → test.test_name.now ≡ name → IsAnswer default overrides test (Picks test) answer

-- the known answer; none if it is unknown
abbrev pub known_of : TestAnswer → Option Bool
known_of (Known answer) = Some answer
known_of (Unknown path) = None
