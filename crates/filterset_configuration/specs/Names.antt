-- Names of profiles and of groups of tests that nextest has or reserves.
use Rattle.std.specs.Prelude.{Bool, ◌==◌, ◌&&◌, ◌||◌, bytes_eq, codes, drop, if◌then◌else◌, not}
use Rattle.std.specs.List.{list_any, starts_with}
use Rattle.filterset_json.specs.Shape.{Text}
use Rattle.filterset_configuration.specs.declared.wrong.ValueRole.{ValueRole, TheVariants.ReservedProfile}

-- nextest itself has these profiles; `default-miri` falls back on `default`
abbrev pub is_built_in : Text → Bool
is_built_in name = bytes_eq name (codes "default") || bytes_eq name (codes "default-miri")

abbrev pub begins_with : Text → Text → Bool
begins_with text front = starts_with (λ a b. a == b) text front

-- nextest keeps the other names of profiles that begin with `default-` for itself, and names of groups that begin with
-- `@`, but for those of tools, as `@tool:NAME:GROUP`; 58 is the colon
abbrev pub is_reserved : ValueRole → Text → Bool
is_reserved ReservedProfile name = begins_with name (codes "default-") && not (is_built_in name)
is_reserved _ name = if begins_with name (codes "@tool:") then not (list_any (λ b. b == 58) (drop 6 name))
    else begins_with name (codes "@")
