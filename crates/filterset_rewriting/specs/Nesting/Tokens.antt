-- What a text begins with.
use Rattle.std.specs.Prelude.{◌≡◌, ℕ, ◌||◌, Bool, List, ◌∷◌, ◌++◌, Option, None, Some, IsTrue, codes, length, if◌then◌else◌}
use Rattle.std.specs.{List.prefix_len, Str.bytes_eq}
use Rattle.filterset_faults.specs.declared.span.SourceSpan.{SourceSpan}
use Rattle.filterset_glob.specs.Signs.{◌∈◌}
use Rattle.filterset_grammar.specs.{Grammar.LeafText, Text.Blanks, Text.ends_word, Text.is_between, Tree.Leaf}
use Rattle.filterset_rewriting.specs.Nesting.Arguments.{IsArgument, argument_of}
use Rattle.filterset_rewriting.specs.declared.nesting.{arguments.ArgumentKind.ArgumentKind, tokens.Lexeme.Lexeme}
use Rattle.filterset_rewriting.specs.declared.nesting.tokens.Lexeme.TheVariants.{Between, Close, Negation, Open, Predicate}

-- the token that is this byte
abbrev pub sign_token : ℕ → Option Lexeme
sign_token b =
    if b ∈ " \n\r&|+-^" then Some Between
    else (if b ∈ "!" then Some Negation else (if b ∈ "(" then Some Open else (if b ∈ ")" then Some Close else None)))

-- the operator that is this word
abbrev pub word_token : List ℕ → Option Lexeme
word_token word =
    if bytes_eq word (codes "not") then Some Negation
    else (if bytes_eq word (codes "and") || bytes_eq word (codes "or") then Some Between else None)

-- a letter of a name, or `_`
abbrev pub is_letter : ℕ → Bool
is_letter b = is_between b "a" "z" || (b ∈ "_")

-- the rest of a text goes on with the argument of the predicate of this name, and `t` is after it
pub record IsPredicateAfter (name rest t : List ℕ) : Type 0 where
  pub argument : ArgumentKind
  pub named : argument_of name ≡ Some argument
  pub blanks : List ℕ
  pub are_blanks : Blanks blanks
  pub inside : List ℕ
  pub is_inside : IsArgument argument inside
  pub text : rest ≡ blanks ++ (40 ∷ (inside ++ 41 ∷ t))

-- the text begins with this token, and `t` is after it
pub data Begins : List ℕ → Lexeme → List ℕ → Type 0 where
  sign : {b : ℕ} {t : List ℕ} {token : Lexeme} → sign_token b ≡ Some token → Begins (b ∷ t) token t
  word : {text t : List ℕ} {token : Lexeme} (own : List ℕ) → word_token own ≡ Some token
      → prefix_len is_letter own ≡ length own → IsTrue (ends_word t) → text ≡ own ++ t → Begins text token t
  predicate : {text t : List ℕ} {at : ℕ} {leaf : Leaf SourceSpan} (own : List ℕ) → LeafText own at leaf
      → text ≡ own ++ t → Begins text Predicate t
