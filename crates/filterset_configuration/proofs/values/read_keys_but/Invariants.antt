use Rattle.std.proofs.Common.{◌≡◌, ◌++◌, map, string_bytes}
use Rattle.toml.specs.View.{view}
use Rattle.filterset_configuration.specs.Profiles.{settings_but}
use Rattle.filterset_configuration.proofs.OtherKeys.{keys_but}
use Rattle.filterset_configuration.proofs.values.read_keys_but.Given as goal

-- the keys so far, and those that are left
abbrev pub invariant-loop-key : goal.invariant-loop-key
invariant-loop-key l =
    map string_bytes l.keys.items ++ keys_but (map (λ o. o.now) l.others) (map string_bytes l.key-iterator)
    ≡ settings_but (map (λ o. o.now) l.others) (view l.value)
