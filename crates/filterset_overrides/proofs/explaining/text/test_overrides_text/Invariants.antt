use Rattle.std.proofs.Common.{◌≡◌, ◌++◌, string_bytes, take}
use Rattle.std.specs.List.{flat_map}
use Rattle.filterset_overrides.specs.ExplainedText.{setting_line}
use Rattle.filterset_overrides.proofs.explaining.text.test_overrides_text.Given as goal

-- those so far were written
abbrev pub invariant-loop-setting : goal.invariant-loop-setting
invariant-loop-setting l =
    string_bytes l.text ≡ string_bytes l.initial.text ++ flat_map setting_line (take l.setting-index l.setting-items)
