-- Overrides as they are laid out for evaluation, and the walk over them for a test.
use Rattle.std.specs.Prelude.{◌≡◌, ◌≢◌, ◌↔◌, ◌⊎◌, Bool, true, false, IsTrue, All, List, [], ◌∷◌, Option, Some, None, MatchBool, cond, map}
use Rattle.std.specs.Borrow.{Bor}
use Rattle.filterset_expression.specs.{Expression.is_group, FlatExpressions.IsFlat, FlatExpressions.has_step}
use Rattle.filterset_expression.specs.declared.expression.CompiledExpr.{CompiledExpr, TheVariants.Set}
use Rattle.filterset_expression.specs.declared.flat.FlatExpr.{FlatExpr}
use Rattle.filterset_expression.specs.declared.leaves.FiltersetLeaf.TheVariants.{All as AllTests}
use Rattle.filterset_expression.specs.declared.query.{BinaryQuery.BinaryQuery, TestQuery.TestQuery}
use Rattle.filterset_listing.specs.Asking.{Text}
use Rattle.filterset_listing.specs.Groups.{Applies, Covers, HangsOn, IsAnswer, MayBeIn, applies}
use Rattle.filterset_listing.specs.declared.groups.{FlatOverride.FlatOverride, GroupOverride.GroupOverride, Seen.Seen}
use Rattle.filterset_listing.specs.declared.groups.Step.{Step, TheVariants.Decided, TheVariants.Open}
use Rattle.filterset_listing.specs.declared.groups.TestAnswer.{TestAnswer, TheVariants.Known, TheVariants.Unknown}
use Rattle.filterset_listing.specs.declared.groups.ToldOverride.{ToldOverride}

-- ---- laid out

abbrev pub all_tests : CompiledExpr
all_tests = Set AllTests

-- the filter, or all tests without one
abbrev pub filter_or_all : Option (Bor CompiledExpr) → CompiledExpr
filter_or_all (Some filter) = filter.now
filter_or_all None = all_tests

abbrev pub filter_of : GroupOverride → CompiledExpr
filter_of over = filter_or_all over.filter

-- the filter is laid out as steps
abbrev pub IsLaid : CompiledExpr → FlatOverride → Type 0
IsLaid default laid = IsFlat laid.filter (filter_of laid.given) default

-- the overrides are laid out, in their order
abbrev pub AreLaid : CompiledExpr → List GroupOverride → List FlatOverride → Type 0
AreLaid default overrides laids = (map (λ l. l.given) laids ≡ overrides) × All (IsLaid default) laids

-- these are the overrides, or none where the filterset has no `group` leaf
abbrev pub AreFor : FlatExpr → List GroupOverride → List GroupOverride → Type 0
AreFor flat overrides used = (used ≡ overrides) ⊎ ((used ≡ []) × (has_step is_group flat ≡ false))

-- ---- of a binary

-- a known answer of the filter about the binary is whether it picks each test of the binary
abbrev pub IsToldOf : CompiledExpr → GroupOverride → BinaryQuery → Option Bool → Type 0
IsToldOf default over binary told = (value : Bool) → told ≡ Some value
    → (test : TestQuery) → test.binary_query ≡ binary → IsTrue value ↔ Covers default over test

abbrev pub given_of : ToldOverride → GroupOverride
given_of row = row.laid.now.given

-- an override that is laid out and told, and whose platforms apply to the binary, surely or perhaps
abbrev pub MayApply : CompiledExpr → BinaryQuery → ToldOverride → Type 0
MayApply default binary row = IsLaid default row.laid.now × IsToldOf default (given_of row) binary row.told
    × (applies (given_of row) binary.platform ≡ cond row.is_sure (Some true) None)

-- the override applies to no test of the binary
abbrev pub NeverApplies : CompiledExpr → GroupOverride → BinaryQuery → Type 0
NeverApplies default over binary = (test : TestQuery) → test.binary_query ≡ binary
    → ¬ Applies default test over (Some true) × ¬ Applies default test over None

-- the one overrides and the others put each test of the binary in the same groups, and it depends on the same override
abbrev pub SameGroups : CompiledExpr → BinaryQuery → List GroupOverride → List GroupOverride → Type 0
SameGroups default binary overrides others = (test : TestQuery) → test.binary_query ≡ binary → (text : Text)
    → (MayBeIn default others test text ↔ MayBeIn default overrides test text)
    × (HangsOn default others test text ↔ HangsOn default overrides test text)

-- those of the overrides that may apply to tests of the binary
abbrev pub AreTold : CompiledExpr → List GroupOverride → BinaryQuery → List ToldOverride → Type 0
AreTold default overrides binary rows =
    All (MayApply default binary) rows × SameGroups default binary overrides (map given_of rows)

-- ---- of a test

-- The answer about a test that may be in the groups of these overrides, where the answer for the groups before was this
-- one, if there were any.
abbrev pub Finishes : CompiledExpr → TestQuery → (Text → Type 0) → Option Seen → List GroupOverride → TestAnswer → Type 0
Finishes default test Is None overrides answer = IsAnswer default overrides test Is answer
Finishes default test Is (Some seen) overrides (Known answer) =
    (answer ≡ seen.answer) × IsAnswer default overrides test Is (Known answer)
Finishes default test Is (Some seen) overrides (Unknown path) = (path ≡ seen.path)
    × ((group : Text) × MayBeIn default overrides test group × MatchBool seen.answer (¬ Is group) (Is group))

-- the walk ends at this override with an answer, or goes on after it
abbrev pub StepsOn : CompiledExpr → TestQuery → (Text → Type 0) → GroupOverride → Option Seen → Step → Type 0
StepsOn default test Is over seen (Decided answer) =
    (rest : List GroupOverride) → Finishes default test Is seen (over ∷ rest) answer
StepsOn default test Is over seen (Open next) = (rest : List GroupOverride) (answer : TestAnswer)
    → Finishes default test Is next rest answer → Finishes default test Is seen (over ∷ rest) answer

-- the answer for one more group, where this one was for the groups before: known if it is the same
abbrev pub Joins : Option Seen → Bool → TestAnswer → Type 0
Joins None answer result = result ≡ Known answer
Joins (Some seen) answer result =
    (seen.answer ≡ answer → result ≡ Known answer) × (seen.answer ≢ answer → result ≡ Unknown seen.path)
