-- The tokens of filtersets: their words, operators and arguments.
use Rattle.std.specs.Prelude.{◌≡◌, ◌⊎◌, ◌==◌, ◌+◌, ◌-◌, ◌++◌, ◌<◌, ◌&&◌, ◌||◌, ℕ, Bool, List, [], ◌∷◌, MatchBool, MatchOption, None, Option, Some, codes, drop, false, length, map, min, slice_index, take, true, if◌then◌else◌}
use Rattle.std.specs.{List.filter, List.list_any, List.take_while, Str.bytes_eq}
use Rattle.filterset_faults.specs.{Span.length_of, Span.offset_of, Span.span, declared.span.SourceSpan.SourceSpan}
use Rattle.filterset_glob.specs.Signs.{◌∈◌}
use Rattle.filterset_graph.specs.Packages.{Text}
use Rattle.filterset_grammar.specs.Text.{is_word_byte}
use Rattle.filterset_grammar.specs.Tree.{Leaf, Matching, Platform, Tree, tree_leaves}
use Rattle.filterset_matchers.specs.Matcher.{Matcher, Equal, Contains, Glob, Regex}
use Rattle.filterset_rewriting.specs.Reading.{IsRead, IsUnread}
use Rattle.filterset_rewriting.specs.declared.tokens.arguments.{Argument.Argument, ArgumentForm.ArgumentForm}
use Rattle.filterset_rewriting.specs.declared.tokens.{Token.Token, TokenKind.TokenKind}
use Rattle.filterset_rewriting.specs.declared.tokens.arguments.ArgumentForm.TheVariants as forms
use Rattle.filterset_rewriting.specs.declared.tokens.TokenKind.TheVariants as kinds

abbrev pub token : ℕ → ℕ → TokenKind → Token
token offset len kind = record { span = span offset len; kind = kind }

-- ---- outside of arguments

-- a word is an operator or the name of a predicate
abbrev pub word_kind : Text → TokenKind
word_kind word =
    if bytes_eq word (codes "and") || (bytes_eq word (codes "or") || bytes_eq word (codes "not")) then kinds.Keyword
    else kinds.Function

-- a sign that is an operator
abbrev pub is_sign : ℕ → Bool
is_sign b = b ∈ "!|+&-^"

-- the tokens of a text without arguments that is at this offset: its words, as long as they go on, and its signs
pub data PlainTokens : ℕ → Text → List Token → Type 0 where
  nothing : {at : ℕ} → PlainTokens at [] []
  word : {at len : ℕ} {text : Text} {tokens : List Token} → len ≡ length (take_while is_word_byte text) → 0 < len
      → PlainTokens (at + len) (drop len text) tokens
      → PlainTokens at text (token at len (word_kind (take len text)) ∷ tokens)
  sign : {at b : ℕ} {rest : Text} {tokens : List Token} → is_word_byte b ≡ false → is_sign b ≡ true
      → PlainTokens (at + 1) rest tokens → PlainTokens at (b ∷ rest) (token at 1 kinds.Operator ∷ tokens)
  other : {at b : ℕ} {rest : Text} {tokens : List Token} → is_word_byte b ≡ false → is_sign b ≡ false
      → PlainTokens (at + 1) rest tokens → PlainTokens at (b ∷ rest) tokens

-- with the new tokens after the old ones, those of the text without its first bytes become those of the text
abbrev pub Advances : ℕ → Text → ℕ → List Token → List Token → Type 0
Advances at text len old new = (more : List Token) → PlainTokens (at + len) (drop len text) more
    → (all : List Token) × PlainTokens at text all × (old ++ all ≡ new ++ more)

-- ---- arguments

-- how a matcher is written
abbrev pub matcher_form : Matcher → ArgumentForm
matcher_form (Equal value true) = forms.Plain
matcher_form (Equal value false) = forms.Signed
matcher_form (Contains value true) = forms.Plain
matcher_form (Contains value false) = forms.Signed
matcher_form (Glob text tokens true) = forms.Plain
matcher_form (Glob text tokens false) = forms.Signed
matcher_form (Regex pattern) = forms.Regex

-- the argument of a predicate, if it takes one
abbrev pub argument_of : Leaf SourceSpan → Option Argument
argument_of (Matching p m s) = Some (record { span = s; form = matcher_form m })
argument_of (Platform q s) = Some (record { span = s; form = forms.Platform })
argument_of _ = None

-- a space or a byte of a line break
abbrev pub is_blank : ℕ → Bool
is_blank b = b ∈ " \n\r"

-- the tokens of an argument without blanks in front of it, which has this offset and length
abbrev pub form_tokens : ArgumentForm → ℕ → ℕ → List Token
form_tokens forms.Regex at len = token at len kinds.Regexp ∷ []
form_tokens forms.Signed at len =
    let sign = min 1 len in token at sign kinds.Operator ∷ token (at + sign) (len - sign) kinds.String ∷ []
form_tokens forms.Plain at len = token at len kinds.String ∷ []
form_tokens forms.Platform at len = token at len kinds.EnumMember ∷ []

-- the tokens of an argument with this text, at this offset
abbrev pub argument_tokens : ArgumentForm → ℕ → Text → List Token
argument_tokens form at text =
    let blanks = length (take_while is_blank text) in form_tokens form (at + blanks) (length text - blanks)

-- ---- filtersets

-- how much is between the offset `at` and an argument, in the rest of a text
abbrev pub gap_len : ℕ → Text → Argument → ℕ
gap_len at rest argument = min (offset_of argument.span - at) (length rest)

-- how much of the rest of a text after that is the argument
abbrev pub own_len : ℕ → Text → Argument → ℕ
own_len at rest argument = min (length_of argument.span) (length rest - gap_len at rest argument)

-- The tokens of the rest of a text from the offset `at` on, in which these predicates are: those of what is between their
-- arguments, and of the arguments.
abbrev pub AreTokensFrom : ℕ → Text → List (Leaf SourceSpan) → List Token → Type 0
AreTokensFrom at rest [] tokens = PlainTokens at rest tokens
AreTokensFrom at rest (leaf ∷ leaves) tokens = MatchOption (argument_of leaf) (AreTokensFrom at rest leaves tokens)
    (λ argument.
    let gap = gap_len at rest argument in
    let own = own_len at rest argument in
    (before behind : List Token) × PlainTokens at (take gap rest) before
    × AreTokensFrom (at + (gap + own)) (drop (gap + own) rest) leaves behind
    × (tokens ≡ before ++ (argument_tokens argument.form (at + gap) (take own (drop gap rest)) ++ behind)))

-- the same of the predicates of a text, in place of those that come after this offset
abbrev pub AdvancesTo : Text → List (Leaf SourceSpan) → ℕ → List (Leaf SourceSpan) → List Token → Type 0
AdvancesTo text leaves at rest tokens = (more : List Token) → AreTokensFrom at (drop at text) rest more
    → AreTokensFrom 0 text leaves (tokens ++ more)

-- the tokens of a text that reads as this tree
abbrev pub AreTokens : Text → Tree SourceSpan → List Token → Type 0
AreTokens text e = AreTokensFrom 0 text (tree_leaves e)

-- ---- the operators `^`

-- the token is a sign, of an operator or of a matcher
abbrev pub is_operator : TokenKind → Bool
is_operator kinds.Operator = true
is_operator _ = false

-- the token is an operator `^` of the text
abbrev pub is_caret : Text → Token → Bool
is_caret text t = is_operator t.kind && (slice_index text (offset_of t.span) ∈ "^")

-- the spans of the operators `^` of a text that reads as this tree, in their order
abbrev pub AreCarets : Text → Tree SourceSpan → List SourceSpan → Type 0
AreCarets text e spans =
    (tokens : List Token) × AreTokens text e tokens × (spans ≡ map (λ t. t.span) (filter (is_caret text) tokens))

-- the spans of the operators `^` of a text that reads as a tree; another has none
abbrev pub HasCarets : Text → List SourceSpan → Type 0
HasCarets text spans = MatchBool (list_any (λ b. b == 94) text)
    (((e : Tree SourceSpan) × IsRead text e × AreCarets text e spans) ⊎ (IsUnread text × (spans ≡ [])))
    (spans ≡ [])
