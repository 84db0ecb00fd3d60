-- The sequences that matchers are expanded to, and how many there are.
use Rattle.std.specs.Prelude.{◌↔◌, ℕ, ◌+◌, ◌*◌, ◌<◌, ◌≤◌, IsUtf8, List, chars, length, max}
use Rattle.std.specs.declared.{vec.Vec.Vec, alloc.Global.Global}
use Rattle.filterset_glob.specs.Tokens.{Token, alternates, deep_first, deep_mid, Tokens, no_token, next_token, Branches, no_more, branch}
use Rattle.filterset_matchers.specs.Matcher as matcher
use Rattle.filterset_matchers.specs.Matcher.{Matcher, MatchesName}
use Rattle.filterset_texts.specs.{Parts.FitsSome, declared.expanding.Expansion.Expansion}
use Rattle.filterset_texts.specs.declared.expanding.Expansion.TheVariants.{Sequences, Pattern, TooMany}
use Rattle.filterset_texts.specs.declared.part.Part.{Part}

abbrev mutual
  -- one for each choice of a sequence of each token
  pub sequence_count : Tokens → ℕ
  sequence_count no_token = 1
  sequence_count (next_token token tokens) = token_sequence_count token * sequence_count tokens

  -- those of all branches for a group, but one at least, so that no product is smaller than a part of it
  pub token_sequence_count : Token → ℕ
  token_sequence_count (alternates branches) = max (branches_sequence_count branches) 1
  token_sequence_count deep_first = 2
  token_sequence_count deep_mid = 2
  token_sequence_count _ = 1

  pub branches_sequence_count : Branches → ℕ
  branches_sequence_count no_more = 0
  branches_sequence_count (branch tokens branches) = sequence_count tokens + branches_sequence_count branches

-- one for a matcher that compares, those of the tokens for a glob, and none for a pattern
abbrev pub matcher_sequence_count : Matcher → ℕ
matcher_sequence_count (matcher.Equal value implicit) = 1
matcher_sequence_count (matcher.Contains value implicit) = 1
matcher_sequence_count (matcher.Glob own tokens implicit) = sequence_count tokens
matcher_sequence_count (matcher.Regex pattern) = 0

-- the matcher is a regular expression
abbrev pub IsPattern : Matcher → Type 0
IsPattern (matcher.Equal value implicit) = ⊥
IsPattern (matcher.Contains value implicit) = ⊥
IsPattern (matcher.Glob own tokens implicit) = ⊥
IsPattern (matcher.Regex pattern) = Unit {0}

-- one of the sequences matches a text exactly if the matcher does
abbrev pub MatchAlike : List (Vec Part Global) → Matcher → Type 0
MatchAlike sequences one = (text : List ℕ) → IsUtf8 text → FitsSome sequences (chars text) ↔ MatchesName one text

-- the sequences of a matcher that is no pattern, no more than the limit
pub record AreSequencesOf (one : Matcher) (limit : ℕ) (sequences : List (Vec Part Global)) : Type 0 where
  pub matched : MatchAlike sequences one
  pub few : length sequences ≤ limit
  pub no_pattern : ¬ IsPattern one

-- what a matcher is expanded to within the limit
abbrev pub IsExpansionOf : Matcher → ℕ → Expansion → Type 0
IsExpansionOf one limit (Sequences sequences) = AreSequencesOf one limit sequences.items
IsExpansionOf one limit Pattern = IsPattern one
IsExpansionOf one limit TooMany = limit < matcher_sequence_count one
