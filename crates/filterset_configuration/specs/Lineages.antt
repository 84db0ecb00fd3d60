-- The profiles that a profile falls back on.
use Rattle.std.specs.Prelude.{◌≡◌, List, [], ◌∷◌, ◌++◌, Option, None, Some, IfSome, IsTrue, bytes_eq, codes, false, find, if◌then◌else◌, option_and_then, option_map, string_bytes}
use Rattle.std.specs.Option.{option_or}
use Rattle.filterset_json.specs.Shape.{Text}
use Rattle.filterset_configuration.specs.{Names.is_built_in, Paths.profile_path}
use Rattle.filterset_configuration.specs.declared.fault.LineageFault.{LineageFault}
use Rattle.filterset_configuration.specs.declared.fault.LineageFault.TheVariants.{NoProfile, NoParent, Cycle, OutOfMemory}
use Rattle.filterset_configuration.specs.declared.profiles.Profile.{Profile}

-- the first profile that is named so
abbrev pub first_named : List Profile → Text → Option Profile
first_named ps name = find (λ p. bytes_eq (string_bytes p.name) name) ps

-- the profile of this name, which is `default` for a `default-miri` that the file lacks
abbrev pub named : List Profile → Text → Option Profile
named ps name = option_or (first_named ps name)
    (if bytes_eq name (codes "default-miri") then first_named ps (codes "default") else None)

-- a profile falls back on the one that it inherits from, and else on `default`, which falls back on none
abbrev pub parent : Profile → Option Text
parent p =
    option_or (option_map string_bytes p.inherits)
    (if bytes_eq (string_bytes p.name) (codes "default") then None else Some (codes "default"))

-- from a name on, each profile of the chain has the name that the one before it falls back on, up to a last name
abbrev pub Leads : List Profile → Option Text → List Profile → Option Text → Type 0
Leads ps name [] last = name ≡ last
Leads ps name (p ∷ chain) last = (option_and_then (named ps) name ≡ Some p) × Leads ps (parent p) chain last

-- the chain ends where nothing follows, or at a profile that is built in, if the file lacks it
abbrev pub Lineage : List Profile → Text → List Profile → Type 0
Lineage ps name chain =
    (last : Option Text) × Leads ps (Some name) chain last
    × (option_and_then (named ps) last ≡ None) × IfSome last (λ t. IsTrue (is_built_in t))

-- no profile has the name, or the one that the last of a chain inherits from; or a chain comes back to where it was
abbrev pub IsLineageFault : List Profile → Text → LineageFault → Type 0
IsLineageFault ps name (NoProfile n) = (string_bytes n ≡ name) × (named ps name ≡ None) × (is_built_in name ≡ false)
IsLineageFault ps name (NoParent path n) =
    (chain : List Profile) × (p : Profile) × (string_bytes path ≡ profile_path (string_bytes p.name) ++ codes ".inherits")
    × Leads ps (Some name) (chain ++ p ∷ []) (Some (string_bytes n))
    × (named ps (string_bytes n) ≡ None) × (is_built_in (string_bytes n) ≡ false)
IsLineageFault ps name (Cycle path) =
    (chain circle : List Profile) × (p : Profile) × (string_bytes path ≡ profile_path (string_bytes p.name))
    × (t : Option Text) × Leads ps (Some name) chain t × Leads ps t (p ∷ circle) t
IsLineageFault ps name (OutOfMemory error) = Unit {0}

-- the fault of a name that no profile has, which the last profile of the chain falls back on, or which is asked for
abbrev pub IsMissing : List Profile → Text → LineageFault → Type 0
IsMissing chain name (NoProfile n) = (chain ≡ []) × (string_bytes n ≡ name)
IsMissing chain name (NoParent path n) =
    (front : List Profile) × (p : Profile) × (chain ≡ front ++ p ∷ [])
    × (string_bytes path ≡ profile_path (string_bytes p.name) ++ codes ".inherits") × (string_bytes n ≡ name)
IsMissing chain name (Cycle path) = ⊥
IsMissing chain name (OutOfMemory error) = ⊥
