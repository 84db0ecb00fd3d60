-- The grammar of platforms, which is that of Cargo.
-- A piece of a text is read at its front, after white space: `A .. s t` says that `s` begins with an A, and `t` follows.
use Rattle.std.specs.Prelude.{◌≡◌, ◌≢◌, ℕ, ◌⊎◌, Bool, true, false, ◌||◌, ◌==◌, IsTrue, if◌then◌else◌, [], ◌∷◌, ◌++◌, codes, drop, slice_get, take_while}
use Rattle.std.specs.Char.{is_ascii_alphabetic, is_ascii_digit}
use Rattle.std.specs.{List.All, List.prefix_len, Option.option_map_or, Str.bytes_eq, Str.trim_start}
use Rattle.filterset_configuration.specs.PlatformTrees.{Setting, name, key_value, Expr, set, literal, negated, all, any, Exprs, none, more, Spec, is_named, satisfies}
use Rattle.filterset_json.specs.Shape.{Text}

-- an ASCII letter or `_`; or a digit
abbrev pub is_letter : ℕ → Bool
is_letter b = is_ascii_alphabetic b || (b == 95)

abbrev pub is_word_byte : ℕ → Bool
is_word_byte b = is_ascii_digit b || is_letter b

-- how long the word is that a text begins with
abbrev pub word_len : Text → ℕ
word_len t = prefix_len is_word_byte t

-- a sign
abbrev pub Sign : ℕ → Text → Text → Type 0
Sign sign s t = trim_start s ≡ sign ∷ t

-- a text begins with a letter, and so with a word, the longest one
pub record BeginsWithWord (word s t : Text) : Type 0 where
  pub begins : IsTrue (option_map_or is_letter (slice_get s 0) false)
  pub longest : word ≡ take_while is_word_byte s
  pub behind : t ≡ drop (prefix_len is_word_byte s) s

abbrev pub Word : Text → Text → Text → Type 0
Word word s t = BeginsWithWord word (trim_start s) t

-- a value between quotes, which has none of these itself; 34 is the quote
pub record Quoted (value s t : Text) : Type 0 where
  pub text : trim_start s ≡ 34 ∷ (value ++ (34 ∷ t))
  pub no_quote : All (λ b. b ≢ 34) value

-- a word that is no operator
abbrev pub IsKey : Text → Type 0
IsKey word = (word ≢ codes "all") × (word ≢ codes "any") × (word ≢ codes "not")

-- the expression that a word alone is
abbrev pub named : Text → Expr
named word = if bytes_eq word (codes "true") then literal true
    else (if bytes_eq word (codes "false") then literal false else set (name word))

abbrev pub IsNamed : Text → Expr → Type 0
IsNamed word e = IsKey word × (e ≡ named word)

-- a word, and then what A says of it
abbrev pub Starts : (Text → Text → Text → Type 0) → Text → Text → Type 0
Starts A s r = (word : Text) × (t : Text) × BeginsWithWord word (trim_start s) t × A word t r

-- 40, 41, 44 and 61 are the parentheses, the comma and the equals sign
abbrev mutual
  -- an expression after its first word
  pub GoesOn : Expr → Text → Text → Text → Type 0
  GoesOn (set (key_value k v)) word s r = (word ≡ k) × IsKey k × (t : Text) × Sign 61 s t × Quoted v t r
  GoesOn (negated e) word s r =
      (word ≡ codes "not") × (t : Text) × (u : Text) × Sign 40 s t × Starts (λ w x y. GoesOn e w x y) t u × Sign 41 u r
  GoesOn (all es) word s r = (word ≡ codes "all") × (t : Text) × Sign 40 s t × Inside es t r
  GoesOn (any es) word s r = (word ≡ codes "any") × (t : Text) × Sign 40 s t × Inside es t r
  GoesOn e word s r = IsNamed word e × ((t : Text) → ¬ Sign 61 s t) × (r ≡ s)

  -- expressions with commas between them, perhaps one after the last, and the closing parenthesis
  pub Inside : Exprs → Text → Text → Type 0
  Inside none s r = Sign 41 s r
  Inside (more e es) s r =
      (t : Text) × Starts (λ w x y. GoesOn e w x y) s t
      × (((es ≡ none) × Sign 41 t r) ⊎ ((u : Text) × Sign 44 t u × Inside es u r))

abbrev pub Expression : Expr → Text → Text → Type 0
Expression e s r = Starts (GoesOn e) s r

-- the whole text is an expression and a closing parenthesis
abbrev pub IsWhole : Expr → Text → Type 0
IsWhole e s = (r : Text) × Starts (GoesOn e) s r × Sign 41 r []

-- a byte of a triple: 45 and 46 are the dash and the dot
abbrev pub is_triple_byte : ℕ → Bool
is_triple_byte b = is_word_byte b || ((b == 45) || (b == 46))

-- the whole text is the platform
abbrev pub Spells : Text → Spec → Type 0
Spells text (is_named t) = (t ≡ text) × All (λ b. IsTrue (is_triple_byte b)) text
Spells text (satisfies e) = (s : Text) × (text ≡ codes "cfg(" ++ s) × IsWhole e s

-- a line that rustc writes for a setting
abbrev pub IsLine : Text → Setting → Type 0
IsLine line (name n) = BeginsWithWord n line []
IsLine line (key_value k v) = BeginsWithWord k line (codes "=\"" ++ (v ++ codes "\""))
