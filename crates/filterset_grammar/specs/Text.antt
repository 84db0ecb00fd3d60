-- Texts, and the small pieces that the language is made of.
-- A text is the list of its bytes in UTF-8, as every contract sees a `&str`; so the byte offset of a
-- position is the number of bytes before it.
use Rattle.std.specs.Prelude.{◌≡◌, ℕ, ◌+◌, ◌-◌, ◌*◌, ◌<◌, ◌≤◌, List, [], ◌∷◌, ◌++◌, codes, length, All, Bool, true, false, cond, IsTrue, encode_utf8, encode_utf8_all, ◌&&◌, ◌||◌, nat_lt}
use Rattle.std.specs.Char.{IsScalar, is_whitespace}
use Rattle.filterset_glob.specs.Signs.{sign, ◌∈◌}
use Prim.Native.String.{String}

-- a list of blanks, each U+0020, LF, or CR LF
pub data Blanks : List ℕ → Type 0 where
  no_blank : Blanks []
  space : {t : List ℕ} → Blanks t → Blanks (sign " " ∷ t)
  newline : {t : List ℕ} → Blanks t → Blanks (sign "\n" ∷ t)
  return_newline : {t : List ℕ} → Blanks t → Blanks (sign "\r" ∷ sign "\n" ∷ t)

-- the first sign, the last one, or one between them
abbrev pub is_between : ℕ → String → String → Bool
is_between b first last = nat_lt (sign first - 1) b && nat_lt b (sign last + 1)

-- an ASCII letter, an ASCII digit or `_`
abbrev pub is_word_byte : ℕ → Bool
is_word_byte b =
    (is_between b "0" "9" || is_between b "A" "Z") || ((b ∈ "_") || is_between b "a" "z")

-- whether a word may end before the text
abbrev pub ends_word : List ℕ → Bool
ends_word [] = true
ends_word (b ∷ t) = cond (is_word_byte b) false true

-- a list of white space, in the sense of `char::is_whitespace`
abbrev pub WhiteSpace : List ℕ → Type 0
WhiteSpace t = (cs : List ℕ) × (t ≡ encode_utf8_all cs) × All (λ c. IsScalar c × IsTrue (is_whitespace c)) cs

-- what stands for itself in a raw text
abbrev pub is_plain : ℕ → Bool
is_plain b = cond (b ∈ ",)\\") false true

-- the value of a hexadecimal digit of either case, and 16 for anything else
abbrev pub hex_value : ℕ → ℕ
hex_value b =
    cond (is_between b "0" "9") (b - sign "0")
    (cond (is_between b "A" "F") (b - (sign "A" - 10))
    (cond (is_between b "a" "f") (b - (sign "a" - 10)) 16))

-- the digits are hexadecimal, and the number is theirs after the one that stands before
abbrev pub HexDigits : List ℕ → ℕ → ℕ → Type 0
HexDigits [] before number = number ≡ before
HexDigits (d ∷ ds) before number = (hex_value d < 16) × HexDigits ds (16 * before + hex_value d) number

-- what a letter after a backslash stands for; U+0008 and U+000C have no sign
pub data Letter : ℕ → ℕ → Type 0 where
  line_feed : Letter (sign "n") (sign "\n")
  carriage_return : Letter (sign "r") (sign "\r")
  tab : Letter (sign "t") (sign "\t")
  backspace : Letter (sign "b") 8
  form_feed : Letter (sign "f") 12
  backslash : Letter (sign "\\") (sign "\\")
  slash : Letter (sign "/") (sign "/")
  close : Letter (sign ")") (sign ")")
  comma : Letter (sign ",") (sign ",")

-- what stands after the backslash of an escape, and the character that the escape names
pub data Escape : List ℕ → ℕ → Type 0 where
  letter : {l c : ℕ} → Letter l c → Escape (l ∷ []) c
  hexadecimal : {t : List ℕ} {c : ℕ} (digits : List ℕ)
      → 1 ≤ length digits → length digits ≤ 6 → HexDigits digits 0 c → IsScalar c
      → t ≡ codes "u{" ++ (digits ++ codes "}") → Escape t c

-- a raw text, of plain characters and escapes, and the value that it spells
pub data Spelled : List ℕ → List ℕ → Type 0 where
  nothing : Spelled [] []
  plain : {b : ℕ} {raw value : List ℕ} → IsTrue (is_plain b) → Spelled raw value → Spelled (b ∷ raw) (b ∷ value)
  escaped : {more raw value : List ℕ} {c : ℕ} (e : List ℕ)
      → Escape e c → Spelled raw value → more ≡ e ++ raw → Spelled (sign "\\" ∷ more) (encode_utf8 c ++ value)

-- whether a text ends in a backslash
abbrev pub ends_in_backslash : List ℕ → Bool
ends_in_backslash [] = false
ends_in_backslash (b ∷ []) = b ∈ "\\"
ends_in_backslash (b ∷ c ∷ t) = ends_in_backslash (c ∷ t)

-- each `/` of a text directly follows a backslash; the byte before the text is given
abbrev pub SlashesFollow : ℕ → List ℕ → Type 0
SlashesFollow before [] = Unit {0}
SlashesFollow before (b ∷ t) = (b ≡ sign "/" → before ≡ sign "\\") × SlashesFollow b t

-- a text with each `\/` replaced by `/`
abbrev pub with_slashes : List ℕ → List ℕ
with_slashes [] = []
with_slashes (b ∷ []) = b ∷ []
with_slashes (b ∷ c ∷ t) = cond ((b ∈ "\\") && (c ∈ "/")) (sign "/" ∷ with_slashes t) (b ∷ with_slashes (c ∷ t))

-- the body of a regular expression, and its pattern
pub record Body (body pattern : List ℕ) : Type 0 where
  pub slashes : SlashesFollow 0 body
  pub end : ends_in_backslash body ≡ false
  pub replaced : pattern ≡ with_slashes body
