-- How raw texts and bodies of regular expressions are read. Public contracts cite `Spelled` and `Body` instead.
use Rattle.std.specs.Prelude.{◌≡◌, ℕ, zero, suc, ◌+◌, ◌-◌, ◌<◌, List, [], ◌∷◌, ◌++◌, length, take, not, ◌&&◌, ◌==◌, Option, Some, None, if◌then◌else◌, encode_utf8, codes}
use Rattle.std.specs.Option.{option_map, option_and_then}
use Rattle.filterset_glob.specs.Signs.{sign, ◌∈◌}
use Rattle.filterset_grammar.specs.Text.{is_plain, Spelled, Body, with_slashes}
use Rattle.filterset_language.specs.Parsing.Position.{Position, position, advanced, after}
use Rattle.filterset_language.specs.{Parsing.Escapes.escape_at, Faults.EndsText}
use Rattle.filterset_faults.specs.{declared.span.SourceSpan.SourceSpan, Span.span}

-- how many bytes that stand for themselves are at the front
abbrev pub plain_len : List ℕ → ℕ
plain_len [] = 0
plain_len (b ∷ t) = if is_plain b then suc (plain_len t) else 0

-- a value after another
abbrev pub behind_value : List ℕ → Option (List ℕ × List ℕ) → Option (List ℕ × List ℕ)
behind_value front o = option_map (λ x. (front ++ x.0, x.1)) o

-- the value of the raw text that stands after the given number of bytes, and what is left after it
abbrev pub raw_from : List ℕ → ℕ → Option (List ℕ × List ℕ)
raw_from [] k = Some ([], [])
raw_from (b ∷ t) (suc k) = raw_from t k
raw_from (b ∷ t) zero =
    if is_plain b then behind_value (b ∷ []) (raw_from t zero)
    else (if b ∈ "\\" then option_and_then (λ e. behind_value (encode_utf8 e.0) (raw_from t e.1)) (escape_at t)
    else Some ([], b ∷ t))

-- a raw text is not empty
abbrev pub unless_empty : Position → List ℕ × List ℕ → Option (List ℕ × Position)
unless_empty p x =
    if length x.0 == 0 then None else Some (x.0, position (p.at + (length p.rest - length x.1)) x.1)

abbrev pub raw_at : Position → Option (List ℕ × Position)
raw_at p = option_and_then (unless_empty p) (raw_from p.rest zero)

-- the raw text between two positions spells the value
pub record SpelledTo (p : Position) (value : List ℕ) (q : Position) : Type 0 where
  pub raw : List ℕ
  pub spelled : Spelled raw value
  pub parts : p.rest ≡ raw ++ q.rest
  pub offset : q.at ≡ p.at + length raw

-- a raw text that is read: it spells the value, is not empty, and ends there
pub record TextTaken (p : Position) (value : List ℕ) (q : Position) : Type 0 where
  pub spelled : SpelledTo p value q
  pub some : 0 < length spelled.raw
  pub ends : EndsText q.rest

-- how many bytes stand before the first `/` that does not directly follow a backslash; the byte before
-- the text is given
abbrev pub body_len : ℕ → List ℕ → ℕ
body_len before [] = 0
body_len before (b ∷ t) = if (b ∈ "/") && not (before ∈ "\\") then 0 else suc (body_len b t)

-- the pattern and the span of a body of so many bytes, and the position after its `/`
abbrev pub body_by : ℕ → Position → Option ((List ℕ × SourceSpan) × Position)
body_by n p = option_map (λ q. ((with_slashes (take n p.rest), span p.at n), q)) (after (codes "/") (advanced n p))

abbrev pub body_at : Position → Option ((List ℕ × SourceSpan) × Position)
body_at p = body_by (body_len 0 p.rest) p

-- a body that is read: the text up to its `/`
pub record BodyTaken (p : Position) (pattern : List ℕ) (s : SourceSpan) (q : Position) : Type 0 where
  pub body : List ℕ
  pub is : Body body pattern
  pub parts : p.rest ≡ body ++ (sign "/" ∷ q.rest)
  pub offset : q.at ≡ p.at + length body + 1
  pub span_is : s ≡ span p.at (length body)
