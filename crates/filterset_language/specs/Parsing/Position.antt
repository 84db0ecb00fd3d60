-- Positions in a text, and what follows them.
use Rattle.std.specs.Prelude.{◌≡◌, ℕ, ◌+◌, List, [], ◌∷◌, length, drop, ◌<◌, ◌≤◌, ◌==◌, Option, Some, None, if◌then◌else◌}
use Rattle.std.specs.Option.{option_map, option_and_then}
use Rattle.filterset_grammar.specs.Text.{ends_word}
pub use Rattle.filterset_language.specs.Parsing.Seam.{Position, position, skip_from}
use Rattle.filterset_language.specs.declared.parsing.input.Input.{Input}

-- the position at which an input stands
abbrev pub position_of : Input → Position
position_of input = position input.offset input.rest.now

-- the position after so many bytes
abbrev pub advanced : ℕ → Position → Position
advanced count p = position (p.at + count) (drop count p.rest)

-- the position after all blanks
abbrev pub skip : Position → Position
skip p = skip_from p.at p.rest

-- what stands after a text
abbrev pub behind : List ℕ → List ℕ → Option (List ℕ)
behind [] t = Some t
behind (w ∷ ws) [] = None
behind (w ∷ ws) (b ∷ t) = if w == b then behind ws t else None

-- the position after a text, where it stands there
abbrev pub after : List ℕ → Position → Option Position
after text p = option_map (λ t. position (p.at + length text) t) (behind text p.rest)

-- what stands after a word that ends there
abbrev pub if_ends : Position → Option Position
if_ends p = if ends_word p.rest then Some p else None

-- the position after a word, where it stands there and ends
abbrev pub after_word : List ℕ → Position → Option Position
after_word word p = option_and_then if_ends (after word p)

-- the second input is after the first, in one text
pub record IsBehind (first second : Input) : Type 0 where
  pub text : second.text.now ≡ first.text.now
  pub end : second.offset + length second.rest.now ≡ first.offset + length first.rest.now
  pub shorter : length second.rest.now < length first.rest.now

-- the second input is at the first or after it, in one text
pub record IsAtOrBehind (first second : Input) : Type 0 where
  pub text : second.text.now ≡ first.text.now
  pub end : second.offset + length second.rest.now ≡ first.offset + length first.rest.now
  pub shorter : length second.rest.now ≤ length first.rest.now
