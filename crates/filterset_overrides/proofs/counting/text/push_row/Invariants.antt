use Rattle.std.proofs.Common.{◌≡◌, ◌++◌, string_bytes, take}
use Rattle.std.specs.List.{flat_map}
use Rattle.filterset_overrides.specs.TableText.{given_at, given_text}
use Rattle.filterset_overrides.specs.declared.counting.SettingColumn.{SettingColumn}
use Rattle.filterset_overrides.proofs.counting.text.push_row.Given as goal

-- those so far were written
abbrev pub invariant-loop-column : goal.invariant-loop-column
invariant-loop-column l =
    string_bytes l.output ≡ string_bytes l.initial.output ++ flat_map (λ (c : SettingColumn). given_text c.key.now (given_at l.row.at c)) (take l.column-index l.columns)
