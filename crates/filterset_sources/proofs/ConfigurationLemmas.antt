-- Keys of tables.
use Rattle.std.proofs.Common.{◌≡◌, List, [], ◌∷◌, ap, map, refl, string_bytes}
use Rattle.std.specs.Map as maps
use Rattle.toml.specs.View.{members_view}
use Rattle.toml.proofs.Views.{Entry}
use Rattle.filterset_sources.specs.Configurations.{keys_of}

-- the keys of the members are those of the entries
pub keys-entries : (es : List Entry) → map string_bytes (maps.keys_of es) ≡ keys_of (members_view es)
keys-entries [] = refl
keys-entries (e ∷ es) = ap (λ t. string_bytes e.0 ∷ t) (keys-entries es)
