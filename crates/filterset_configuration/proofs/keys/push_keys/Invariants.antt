use Rattle.std.proofs.Common.{◌≡◌, ◌++◌, map, string_bytes}
use Rattle.toml.specs.View.{members_view}
use Rattle.filterset_configuration.specs.Keys.{KeyRow, key_rows, prefix_of, section_keys}
use Rattle.filterset_json.specs.Shape.{Text}
use Rattle.filterset_sources.specs.{Configurations.keys_of, Sections.section_row}
use Rattle.filterset_configuration.proofs.keys.push_keys.Given as goal

-- the other keys are left
abbrev pub invariant-loop-key : goal.invariant-loop-key
invariant-loop-key l =
    let row : Text → KeyRow = λ own. record { kind = l.kind; prefix = prefix_of l.kind (string_bytes l.section.path); key = own } in
    key_rows l.output.items ++ map row (keys_of (members_view l.key-iterator))
    ≡ key_rows l.initial.output.items ++ section_keys (section_row l.section)
