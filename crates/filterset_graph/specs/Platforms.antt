-- The texts of platforms.
use Rattle.std.specs.Prelude.{List, ℕ, codes}
use Rattle.filterset_graph.specs.declared.package.BuildPlatform.{BuildPlatform, TheVariants.Target, TheVariants.Host}

-- what a platform prints
abbrev pub platform_text : BuildPlatform → List ℕ
platform_text Target = codes "target"
platform_text Host = codes "host"
