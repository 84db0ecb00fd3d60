-- Paths to the profiles of a configuration, and to their overrides.
use Rattle.std.specs.Prelude.{ℕ, ◌++◌, codes, decimal}
use Rattle.filterset_json.specs.{Paths.key_text, Shape.Text}

-- the path to the profile of this name
abbrev pub profile_path : Text → Text
profile_path name = codes "profile." ++ key_text name

-- the path to the override at a position of the profile at a path
abbrev pub override_path : Text → ℕ → Text
override_path path at = path ++ (codes ".overrides[" ++ (decimal at ++ codes "]"))
