-- How the name of a platform is read. Public contracts cite `Names` instead.
use Rattle.std.specs.Prelude.{List, ℕ, codes, Option, Some, None, if◌then◌else◌}
use Rattle.std.specs.Str.{is_utf8, trim, bytes_eq}
use Rattle.filterset_graph.specs.declared.package.BuildPlatform.{BuildPlatform, TheVariants.Target, TheVariants.Host}

-- the platform of that name
abbrev pub platform_from : List ℕ → Option BuildPlatform
platform_from t =
    if bytes_eq t (codes "host") then Some Host
    else (if bytes_eq t (codes "target") then Some Target else None)

-- the platform whose name a value is, trimmed
abbrev pub platform_in : List ℕ → Option BuildPlatform
platform_in value = if is_utf8 value then platform_from (trim value) else None
