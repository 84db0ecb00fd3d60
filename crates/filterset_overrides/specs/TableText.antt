-- The table of overrides, as text.
use Rattle.std.specs.Prelude.{◌==◌, ◌&&◌, ℕ, zero, suc, Bool, true, not, List, [], ◌++◌, Option, Some, None, codes, decimal, if◌then◌else◌, is_some, slice_get, unwrap_or}
use Rattle.std.specs.List.{flat_map, list_all, list_any}
use Rattle.filterset_overrides.specs.Applying.{Text}
use Rattle.filterset_overrides.specs.declared.counting.{OverrideRow.OverrideRow, OverrideTable.OverrideTable}
use Rattle.filterset_overrides.specs.declared.counting.{SettingColumn.SettingColumn, TestCount.TestCount}

-- of how many further tests it is unknown, if there are any
abbrev pub unknown_text : ℕ → Text
unknown_text zero = []
unknown_text (suc n) = codes " (unknown: " ++ (decimal (suc n) ++ codes ")")

abbrev pub count_text : TestCount → Text
count_text count = decimal count.sure ++ unknown_text count.unknown

-- how many tests get the setting from the override at this place, if it sets it
abbrev pub given_at : ℕ → SettingColumn → Option TestCount
given_at at column = unwrap_or (slice_get column.given.items at) None

abbrev pub given_text : Text → Option TestCount → Text
given_text key None = []
given_text key (Some count) = codes ", " ++ (key ++ (codes ": " ++ count_text count))

-- the line of an override: its tests, and those of each of its settings
abbrev pub row_line : List SettingColumn → OverrideRow → Text
row_line columns row = row.path.now ++ (codes ": tests: " ++ (count_text row.tests
    ++ (flat_map (λ (c : SettingColumn). given_text c.key.now (given_at row.at c)) columns ++ codes "\n")))

abbrev pub is_zero : TestCount → Bool
is_zero count = count.sure == 0 && count.unknown == 0

-- no test gets the setting from the override
abbrev pub gives_none : Option TestCount → Bool
gives_none None = true
gives_none (Some count) = is_zero count

-- the override applies to tests, and sets something, but no test gets a setting from it
abbrev pub is_overtaken : List SettingColumn → OverrideRow → Bool
is_overtaken columns row = not (is_zero row.tests)
    && (list_any (λ c. is_some (given_at row.at c)) columns && list_all (λ c. gives_none (given_at row.at c)) columns)

abbrev pub warning_line : Bool → Text → Text → Text
warning_line holds path what =
    if holds then codes "warning: " ++ (path ++ (codes ": " ++ (what ++ codes "\n"))) else []

abbrev pub warning_lines : List SettingColumn → OverrideRow → Text
warning_lines columns row = warning_line (is_zero row.tests) row.path.now (codes "applies to no test")
    ++ (warning_line (is_overtaken columns row) row.path.now (codes "overrides before it take each of its settings")
    ++ warning_line row.picks_all row.path.now (codes "its filter picks every test"))

-- the overrides, a line each, and below them what is odd about them
abbrev pub override_table_text : OverrideTable → Text
override_table_text table = flat_map (row_line table.columns.items) table.rows.items
    ++ flat_map (warning_lines table.columns.items) table.rows.items
