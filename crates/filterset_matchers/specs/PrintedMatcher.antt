-- How a matcher prints.
use Rattle.std.specs.Prelude.{ℕ, List, [], ◌∷◌, ◌++◌, codes, Bool, false, cond, ◌==◌, ◌&&◌, nat_le, chars, encode_utf8, if◌then◌else◌}
use Rattle.std.specs.{List.flat_map, Fmt.digits}
use Rattle.filterset_glob.specs.Signs.{sign, ◌∈◌}
use Rattle.filterset_matchers.specs.Matcher.{Matcher, Equal, Contains, Glob, Regex}

-- a character in hexadecimal, as an escape
abbrev pub hexadecimal : ℕ → List ℕ
hexadecimal c = codes "\\u{" ++ (digits 16 false c ++ codes "}")

-- a character of a value
abbrev pub printed_char : ℕ → List ℕ
printed_char c =
    if c ∈ "/),\\" then sign "\\" ∷ c ∷ []
    else if c == sign "\t" then codes "\\t"
    else if c == sign "\n" then codes "\\n"
    else if c == sign "\r" then codes "\\r"
    else if nat_le (sign " ") c && nat_le c (sign "~") then c ∷ []
    else hexadecimal c

-- the first character of a value that prints without a sign
abbrev pub printed_first : ℕ → List ℕ
printed_first c = if c ∈ " =~#" then hexadecimal c else printed_char c

-- the characters of a value that prints without a sign
abbrev pub printed_implicit : List ℕ → List ℕ
printed_implicit [] = []
printed_implicit (c ∷ cs) = printed_first c ++ flat_map printed_char cs

-- the characters of a value
abbrev pub printed_value : List ℕ → List ℕ
printed_value value = flat_map printed_char (chars value)

-- a value after its sign, or without one
abbrev pub signed : ℕ → Bool → List ℕ → List ℕ
signed own implicit value = cond implicit (printed_implicit (chars value)) (own ∷ printed_value value)

-- a character of a pattern
abbrev pub printed_slash : ℕ → List ℕ
printed_slash c = if c == sign "/" then codes "\\/" else encode_utf8 c

-- a pattern between slashes, each `/` of it escaped
abbrev pub printed_pattern : List ℕ → List ℕ
printed_pattern pattern = sign "/" ∷ (flat_map printed_slash (chars pattern) ++ codes "/")

-- a matcher: its sign and its text
abbrev pub printed_matcher : Matcher → List ℕ
printed_matcher (Equal value implicit) = signed (sign "=") implicit value
printed_matcher (Contains value implicit) = signed (sign "~") implicit value
printed_matcher (Glob text tokens implicit) = signed (sign "#") implicit text
printed_matcher (Regex pattern) = printed_pattern pattern
