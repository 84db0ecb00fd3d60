-- The literals that every match of a glob contains, and globs that begin with any text.
use Rattle.std.specs.Prelude.{◌≡◌, ℕ, Bool, true, false, List, ◌++◌, encode_utf8_all}
use Rattle.filterset_glob.specs.{Matching.Matches, Tokens.Tokens, Tokens.deep_first, Tokens.next_token, Tokens.star}

-- in each text that the tokens match stand the characters with these bytes, one after the other
abbrev pub StandsInEach : Tokens → List ℕ → Type 0
StandsInEach tokens literal =
    (text : List ℕ) → Matches tokens text
    → (before : List ℕ) × (own : List ℕ) × (after : List ℕ) × (text ≡ before ++ (own ++ after))
    × (encode_utf8_all own ≡ literal)

-- each text that the tokens match ends in the characters with these bytes
abbrev pub EndsEach : Tokens → List ℕ → Type 0
EndsEach tokens literal =
    (text : List ℕ) → Matches tokens text
    → (before : List ℕ) × (own : List ℕ) × (text ≡ before ++ own) × (encode_utf8_all own ≡ literal)

-- the first token is a star, or the deep token that stands first
abbrev pub begins_with_any_text : Tokens → Bool
begins_with_any_text (next_token star _) = true
begins_with_any_text (next_token deep_first _) = true
begins_with_any_text _ = false
