use Rattle.std.proofs.Common.{◌≡◌, ◌++◌, map, string_bytes}
use Rattle.toml.specs.View.{members_view}
use Rattle.filterset_sources.specs.Configurations.{keys_of}
use Rattle.filterset_sources.proofs.configuration.keys_of.Given as goal

abbrev pub invariant-loop-key : goal.invariant-loop-key
invariant-loop-key l =
    map (λ s. string_bytes s) l.keys.items ++ map string_bytes l.key-iterator ≡ keys_of (members_view l.entries.entries)
