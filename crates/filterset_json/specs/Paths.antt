-- Paths to the values of a file.
use Rattle.std.specs.Prelude.{ℕ, [], ◌∷◌, ◌++◌, ◌==◌, ◌||◌, Bool, codes, decimal, if◌then◌else◌}
use Rattle.std.specs.{Char.is_ascii_alphanumeric, List.list_all}
use Rattle.filterset_json.specs.Shape.{Text}
use Rattle.filterset_json.specs.declared.path.Step.{Step, TheVariants.Key, TheVariants.Item}

-- whether a byte stands in a key without quotes
abbrev pub is_bare_byte : ℕ → Bool
is_bare_byte b = is_ascii_alphanumeric b || (b == 45 || b == 95)

-- whether a key stands in a path without quotes
abbrev pub is_bare : Text → Bool
is_bare key = list_all is_bare_byte key

-- a key as it stands in a path
abbrev pub key_text : Text → Text
key_text key = if is_bare key then key else codes "\"" ++ (key ++ codes "\"")

-- a step as it stands in a path
abbrev pub step_text : Step → Text
step_text (Key key) = key_text key.now
step_text (Item at) = codes "[" ++ (decimal at ++ codes "]")

-- what stands between a step and the rest of a path
abbrev pub joint : Text → Text
joint [] = []
joint (b ∷ bs) = if b == 91 then [] else codes "."

-- the path that begins with a step
abbrev pub joined : Text → Text → Text
joined step rest = step ++ (joint rest ++ rest)
