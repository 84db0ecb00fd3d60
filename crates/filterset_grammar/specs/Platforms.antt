-- Names of platforms, with white space round them.
use Rattle.std.specs.Prelude.{◌≡◌, List, ℕ, ◌++◌}
use Rattle.filterset_grammar.specs.Text.{WhiteSpace}
use Rattle.filterset_graph.specs.{Platforms.platform_text, declared.package.BuildPlatform.BuildPlatform}

-- the text is the platform's name between two lists of white space
pub record Names (value : List ℕ) (platform : BuildPlatform) : Type 0 where
  pub before : List ℕ
  pub behind : List ℕ
  pub white_before : WhiteSpace before
  pub white_behind : WhiteSpace behind
  pub parts : value ≡ before ++ (platform_text platform ++ behind)
