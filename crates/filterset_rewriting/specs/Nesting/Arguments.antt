-- Arguments of predicates. Public contracts cite the grammar instead.
use Rattle.std.specs.Prelude.{◌≡◌, ◌≢◌, ℕ, suc, ◌||◌, ◌&&◌, not, Bool, List, [], ◌∷◌, ◌++◌, Option, None, Some, codes, if◌then◌else◌}
use Rattle.std.specs.Str.{bytes_eq}
use Rattle.filterset_glob.specs.Signs.{◌∈◌}
use Rattle.filterset_grammar.specs.Text.{Blanks, Body, Spelled, WhiteSpace}
use Rattle.filterset_language.specs.Parsing.Front.{blank_len}
use Rattle.filterset_rewriting.specs.declared.nesting.arguments.ArgumentKind.{ArgumentKind}
use Rattle.filterset_rewriting.specs.declared.nesting.arguments.ArgumentKind.TheVariants.{Matcher, Nothing, Raw}

-- names of predicates, by what they take
abbrev pub takes_nothing : List ℕ → Bool
takes_nothing name = bytes_eq name (codes "all") || (bytes_eq name (codes "none") || bytes_eq name (codes "default"))

abbrev pub takes_matcher : List ℕ → Bool
takes_matcher name =
    bytes_eq name (codes "package") || (bytes_eq name (codes "deps") || (bytes_eq name (codes "rdeps")
    || (bytes_eq name (codes "kind") || (bytes_eq name (codes "binary") || (bytes_eq name (codes "binary_id")
    || (bytes_eq name (codes "test") || bytes_eq name (codes "group")))))))

-- what the predicate of this name takes
abbrev pub argument_of : List ℕ → Option ArgumentKind
argument_of name =
    if takes_nothing name then Some Nothing
    else (if bytes_eq name (codes "platform") then Some Raw else (if takes_matcher name then Some Matcher else None))

-- a raw text ends at a `)` or a comma without a backslash in front
abbrev pub ends_raw : Bool → ℕ → Bool
ends_raw escaped b = not escaped && (b ∈ ",)")

abbrev pub escapes : Bool → ℕ → Bool
escapes escaped b = not escaped && (b ∈ "\\")

-- how many bytes are before the first `)` or comma without a backslash in front; whether there is one in front of the text
-- is given
abbrev pub raw_len : Bool → List ℕ → ℕ
raw_len escaped [] = 0
raw_len escaped (b ∷ t) = if ends_raw escaped b then 0 else suc (raw_len (escapes escaped b) t)

abbrev pub IsRaw : List ℕ → Type 0
IsRaw raw = (value : List ℕ) × Spelled raw value

abbrev pub IsBody : List ℕ → Type 0
IsBody body = (pattern : List ℕ) × Body body pattern

-- a regular expression, or a raw text that begins with no blank and no slash
pub data IsMatcher : List ℕ → Type 0 where
  regex : {inside : List ℕ} (before body behind : List ℕ) → Blanks before → IsBody body → Blanks behind
      → inside ≡ before ++ (47 ∷ (body ++ 47 ∷ behind)) → IsMatcher inside
  raw : {inside : List ℕ} (before own : List ℕ) → Blanks before → IsRaw own
      → ((t : List ℕ) → blank_len (own ++ 41 ∷ t) ≡ 0) → ((t u : List ℕ) → own ++ 41 ∷ t ≢ 47 ∷ u)
      → inside ≡ before ++ own → IsMatcher inside

-- what is between the parentheses of a predicate that takes this
abbrev pub IsArgument : ArgumentKind → List ℕ → Type 0
IsArgument Nothing inside = WhiteSpace inside
IsArgument Raw inside = IsRaw inside
IsArgument Matcher inside = IsMatcher inside
