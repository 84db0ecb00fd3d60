-- Matchers of names as values, and what they match.
use Rattle.std.specs.{Prelude.◌≡◌, Prelude.ℕ, Prelude.Bool, Prelude.List, Prelude.chars, Str.Iter.HasSubslice}
use Rattle.filterset_glob.specs.{Matching.Matches, Tokens.Tokens}
use Rattle.filterset_matchers.specs.Pattern.{HasMatch}

-- a matcher without where its parts lie in memory: its texts by their bytes, a glob's tokens, and whether no sign
-- stands before it
pub data Matcher : Type 0 where
  Equal : (value : List ℕ) (implicit : Bool) → Matcher
  Contains : (value : List ℕ) (implicit : Bool) → Matcher
  Glob : (text : List ℕ) (tokens : Tokens) (implicit : Bool) → Matcher
  Regex : (pattern : List ℕ) → Matcher

-- the matcher matches the text
abbrev pub MatchesName : Matcher → List ℕ → Type 0
MatchesName (Equal value implicit) text = text ≡ value
MatchesName (Contains value implicit) text = HasSubslice text value
MatchesName (Glob own tokens implicit) text = Matches tokens (chars text)
MatchesName (Regex pattern) text = HasMatch pattern text

-- the matcher compares texts, and takes no memory for it
abbrev pub ByComparing : Matcher → Type 0
ByComparing (Equal value implicit) = Unit {0}
ByComparing (Contains value implicit) = Unit {0}
ByComparing (Glob own tokens implicit) = ⊥
ByComparing (Regex pattern) = ⊥
