-- How many tests overrides apply to, and how many get settings from them.
use Rattle.std.specs.Prelude.{◌≡◌, ◌==◌, ◌&&◌, All, Bool, true, false, not, List, [], ◌∷◌, ◌++◌, Option, MatchOption, is_some, length, map}
use Rattle.std.specs.{List.AllZip, List.count_by, List.list_all, Option.is_none, Option.unwrap_or}
use Rattle.filterset_graph.specs.declared.package.PackageMetadata.{PackageMetadata}
use Rattle.filterset_expression.specs.declared.expression.CompiledExpr.{CompiledExpr}
use Rattle.filterset_overrides.specs.Applying.{AppliesAs, DoesApply, Test, Text, sets}
use Rattle.filterset_overrides.specs.Giving.{AreDistinctOf, Gives, all_settings}
use Rattle.filterset_overrides.specs.declared.applying.Application.{Application, TheVariants.NotPicked}
use Rattle.filterset_overrides.specs.declared.{asked.AskedOverride.AskedOverride, counting.OverrideRow.OverrideRow}
use Rattle.filterset_overrides.specs.declared.counting.{OverrideTable.OverrideTable, TestCount.TestCount}

-- how many of the tests have the answer yes, and for how many it is unknown
abbrev pub AreCounted : (Test → Option Bool → Type 0) → List Test → TestCount → Type 0
AreCounted Says tests count = (answers : List (Option Bool)) × AllZip Says tests answers
    × (count.sure ≡ count_by (λ a. unwrap_or a false) answers) × (count.unknown ≡ count_by is_none answers)

-- each of the first list, with those before it, with one of the second
abbrev pub EachAfter : {A B : Type 0} → (List A → A → B → Type 0) → List A → List A → List B → Type 0
EachAfter R before [] [] = Unit {0}
EachAfter R before (x ∷ xs) (y ∷ ys) = R before x y × EachAfter R (before ++ x ∷ []) xs ys
EachAfter R before _ _ = ⊥

abbrev pub is_picked : Application → Bool
is_picked NotPicked = false
is_picked application = true

-- whether the override has a filter, and the filter picks each of the tests, of which there are some
abbrev pub PicksAll : List PackageMetadata → CompiledExpr → List Test → AskedOverride → Bool → Type 0
PicksAll packages default tests o picks_all =
    (applications : List Application) × AllZip (λ test. AppliesAs packages default test o) tests applications
    × (picks_all ≡ (is_some o.filter && (not (length tests == 0) && list_all is_picked applications)))

-- the row of an override: its place and path, to how many tests it applies, and whether its filter picks all
abbrev pub IsRow : List PackageMetadata → CompiledExpr → List Test → List AskedOverride → AskedOverride → OverrideRow → Type 0
IsRow packages default tests before o row = (row.at ≡ length before) × (row.path.now ≡ o.path.now)
    × AreCounted (λ test. DoesApply packages default test o) tests row.tests
    × PicksAll packages default tests o row.picks_all

-- how many tests get the setting from the override, if it sets it
abbrev pub IsGiven : List PackageMetadata → CompiledExpr → List Test → Text → List AskedOverride → AskedOverride → Option TestCount → Type 0
IsGiven packages default tests key before o given = MatchOption given (sets o.settings.now key ≡ false)
    (λ count. (sets o.settings.now key ≡ true)
    × AreCounted (λ test. Gives (DoesApply packages default test) key before o) tests count)

-- a row an override, and a column a setting
abbrev pub IsTable : List PackageMetadata → CompiledExpr → List Test → List AskedOverride → OverrideTable → Type 0
IsTable packages default tests overrides table =
    EachAfter (IsRow packages default tests) [] overrides table.rows.items
    × AreDistinctOf (all_settings overrides []) (map (λ c. c.key.now) table.columns.items)
    × All (λ c. EachAfter (IsGiven packages default tests c.key.now) [] overrides c.given.items) table.columns.items
