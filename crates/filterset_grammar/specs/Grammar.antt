-- The language: which texts spell which trees.
-- Each piece of a text comes with the byte offset `at` of its first byte, which serves spans alone.
use Rattle.std.specs.Prelude.{◌≡◌, ◌≢◌, ℕ, ◌+◌, List, [], ◌∷◌, ◌++◌, length, codes, Bool, true, false, IsTrue, chars}
use Rattle.filterset_glob.specs.{Signs.sign, Grammar.GlobText, Tokens.Tokens}
use Rattle.filterset_grammar.specs.Text.{Blanks, is_word_byte, ends_word, WhiteSpace, Spelled, Body}
use Rattle.filterset_grammar.specs.Platforms.{Names}
use Rattle.filterset_grammar.specs.Tree.{Predicate, Leaf, Joiner, Tree, Package, Deps, Rdeps, Kind, Binary, BinaryId, Test, Group, Matching, Platform, Default, Both, Without, ExactlyOne, Not, Union, Join, Parens, Set}
use Rattle.filterset_grammar.specs.declared.{predicate.TextMatching.TextMatching, operators.NotOperator.NotOperator}
use Rattle.filterset_grammar.specs.declared.operators.NotOperator.TheVariants.{LiteralNot, Exclamation}
use Rattle.filterset_grammar.specs.declared.operators.OrOperator.{OrOperator}
use Rattle.filterset_grammar.specs.declared.operators.OrOperator.TheVariants.{LiteralOr, Pipe, Plus}
use Rattle.filterset_grammar.specs.declared.operators.AndOperator.TheVariants.{LiteralAnd, Ampersand}
use Rattle.filterset_grammar.specs.declared.operators.DifferenceOperator.TheVariants.{Minus}
use Rattle.filterset_grammar.specs.declared.operators.SymmetricDifferenceOperator.TheVariants.{Caret}
use Rattle.filterset_matchers.specs.Matcher.{Matcher, Equal, Contains, Glob, Regex}
use Rattle.filterset_grammar.specs.Tree as tree
use Rattle.filterset_faults.specs.{Span.span, declared.span.SourceSpan.SourceSpan}
use Rattle.filterset_graph.specs.declared.package.BuildPlatform.{BuildPlatform}
use Rattle.filterset_grammar.specs.declared.predicate.TextMatching.TheVariants as ways

-- the name of a predicate that takes a matcher
abbrev pub Name : Predicate → List ℕ
Name Package = codes "package"
Name Deps = codes "deps"
Name Rdeps = codes "rdeps"
Name Kind = codes "kind"
Name Binary = codes "binary"
Name BinaryId = codes "binary_id"
Name Test = codes "test"
Name Group = codes "group"

-- the text of a negation
abbrev pub not_text : NotOperator → List ℕ
not_text LiteralNot = codes "not"
not_text Exclamation = codes "!"

-- the text of an operator of the level of `or`
abbrev pub or_text : OrOperator → List ℕ
or_text LiteralOr = codes "or"
or_text Pipe = codes "|"
or_text Plus = codes "+"

-- the text of an operator of the level of `and`
abbrev pub join_text : Joiner → List ℕ
join_text (Both LiteralAnd) = codes "and"
join_text (Both Ampersand) = codes "&"
join_text (Without Minus) = codes "-"
join_text (ExactlyOne Caret) = codes "^"

-- whether an operator is a word, and no sign
abbrev pub is_word : List ℕ → Bool
is_word [] = false
is_word (b ∷ t) = is_word_byte b

-- what may stand after an operator, if it is a word: nothing that goes on with it
abbrev pub EndsWord : Bool → List ℕ → Type 0
EndsWord true rest = IsTrue (ends_word rest)
EndsWord false rest = Unit {0}

-- what may stand after a negation
abbrev pub not_ends : NotOperator → List ℕ → Type 0
not_ends op rest = EndsWord (is_word (not_text op)) rest

-- the same after an operator of the level of `or`
abbrev pub or_ends : OrOperator → List ℕ → Type 0
or_ends op rest = EndsWord (is_word (or_text op)) rest

-- the same after an operator of the level of `and`
abbrev pub join_ends : Joiner → List ℕ → Type 0
join_ends op rest = EndsWord (is_word (join_text op)) rest

-- how a predicate matches by a text that no sign stands before
abbrev pub own_matching : Predicate → TextMatching
own_matching Package = ways.Glob
own_matching Deps = ways.Glob
own_matching Rdeps = ways.Glob
own_matching Kind = ways.Equal
own_matching Binary = ways.Glob
own_matching BinaryId = ways.Glob
own_matching Test = ways.Contains
own_matching Group = ways.Glob

-- the sign of a way to match
abbrev pub matching_sign : TextMatching → ℕ
matching_sign ways.Glob = sign "#"
matching_sign ways.Equal = sign "="
matching_sign ways.Contains = sign "~"

-- the matcher that matches so by a value; a glob's tokens are those of its text
abbrev pub Matches : TextMatching → List ℕ → Bool → Matcher → Type 0
Matches ways.Equal value implicit m = m ≡ Equal value implicit
Matches ways.Contains value implicit m = m ≡ Contains value implicit
Matches ways.Glob value implicit m =
    (tokens : Tokens) × GlobText (chars value) tokens × (m ≡ Glob value tokens implicit)

-- whether a text may begin a matcher without a sign: it begins with no blank and with no sign
abbrev pub begins_plainly : List ℕ → Type 0
begins_plainly raw =
    ((blanks rest : List ℕ) → Blanks blanks → raw ≡ blanks ++ rest → blanks ≡ [])
    × ((b : ℕ) (t : List ℕ) → raw ≡ b ∷ t → (b ≢ sign "/") × (b ≢ sign "#") × (b ≢ sign "=") × (b ≢ sign "~"))

-- a matcher of a predicate, from its sign to its end
pub data MatcherText : Predicate → List ℕ → Matcher → Type 0 where
  regex : {p : Predicate} {t pattern : List ℕ} (body : List ℕ)
      → Body body pattern → t ≡ sign "/" ∷ (body ++ codes "/") → MatcherText p t (Regex pattern)
  signed : {p : Predicate} {raw : List ℕ} {m : Matcher} (how : TextMatching) (value : List ℕ)
      → Spelled raw value → raw ≢ [] → Matches how value false m → MatcherText p (matching_sign how ∷ raw) m
  implicit : {p : Predicate} {raw : List ℕ} {m : Matcher} (value : List ℕ)
      → Spelled raw value → raw ≢ [] → begins_plainly raw → Matches (own_matching p) value true m → MatcherText p raw m

-- what may stand after a matcher: blanks after a regular expression, nothing after a text, whose
-- own blanks belong to it
abbrev pub BehindMatcher : Matcher → List ℕ → Type 0
BehindMatcher (Regex pattern) t = Blanks t
BehindMatcher _ t = t ≡ []

-- a name, blanks, and an argument between parentheses; `inside` is the argument's offset
pub record Call (name argument t : List ℕ) (at inside : ℕ) : Type 0 where
  pub blanks : List ℕ
  pub are_blanks : Blanks blanks
  pub text : t ≡ name ++ (blanks ++ (sign "(" ∷ (argument ++ codes ")")))
  pub offset : inside ≡ at + length name + length blanks + 1

-- The text, whose first byte has the given offset, is the predicate. The span of a matcher runs from after the `(` to
-- the matcher's end, leading blanks included; that of `platform` over its raw text; that of `default` from the name to
-- after the `)`.
pub data LeafText : List ℕ → ℕ → Leaf SourceSpan → Type 0 where
  matching : {p : Predicate} {t : List ℕ} {at : ℕ} {m : Matcher} {s : SourceSpan}
      (inside : ℕ) (before raw behind : List ℕ)
      → Call (Name p) (before ++ (raw ++ behind)) t at inside
      → Blanks before → MatcherText p raw m → BehindMatcher m behind
      → s ≡ span inside (length before + length raw) → LeafText t at (Matching p m s)
  platform : {q : BuildPlatform} {t : List ℕ} {at : ℕ} {s : SourceSpan} (inside : ℕ) (raw value : List ℕ)
      → Call (codes "platform") raw t at inside → Spelled raw value → Names value q → s ≡ span inside (length raw)
      → LeafText t at (Platform q s)
  default : {t : List ℕ} {at : ℕ} {s : SourceSpan} (inside : ℕ) (white : List ℕ)
      → Call (codes "default") white t at inside → WhiteSpace white → s ≡ span at (length t) → LeafText t at (Default s)
  all : {t : List ℕ} {at : ℕ} (inside : ℕ) (white : List ℕ)
      → Call (codes "all") white t at inside → WhiteSpace white → LeafText t at tree.All
  none : {t : List ℕ} {at : ℕ} (inside : ℕ) (white : List ℕ)
      → Call (codes "none") white t at inside → WhiteSpace white → LeafText t at tree.None

mutual
  -- a leaf, a negation or parentheses
  pub data Basic : List ℕ → ℕ → Tree SourceSpan → Type 0 where
    leaf : {t : List ℕ} {at : ℕ} {l : Leaf SourceSpan} (blanks own : List ℕ)
        → Blanks blanks → LeafText own (at + length blanks) l → t ≡ blanks ++ own → Basic t at (Set l)
    negation : {t : List ℕ} {at : ℕ} {op : NotOperator} {e : Tree SourceSpan} (blanks own : List ℕ)
        → Blanks blanks → not_ends op own → Basic own (at + length blanks + length (not_text op)) e
        → t ≡ blanks ++ (not_text op ++ own) → Basic t at (Not op e)
    parens : {t : List ℕ} {at : ℕ} {e : Tree SourceSpan} (blanks own behind : List ℕ)
        → Blanks blanks → OrLevel own (at + length blanks + 1) e → Blanks behind
        → t ≡ blanks ++ (sign "(" ∷ (own ++ (behind ++ codes ")"))) → Basic t at (Parens e)

  -- operands of the level of `and`, to the left
  pub data AndLevel : List ℕ → ℕ → Tree SourceSpan → Type 0 where
    one : {t : List ℕ} {at : ℕ} {e : Tree SourceSpan} → Basic t at e → AndLevel t at e
    join : {t : List ℕ} {at : ℕ} {op : Joiner} {l r : Tree SourceSpan} (left blanks right : List ℕ)
        → AndLevel left at l → Blanks blanks → join_ends op right
        → Basic right (at + length left + length blanks + length (join_text op)) r
        → t ≡ left ++ (blanks ++ (join_text op ++ right)) → AndLevel t at (Join op l r)

  -- operands of the level of `or`, to the left
  pub data OrLevel : List ℕ → ℕ → Tree SourceSpan → Type 0 where
    one_and : {t : List ℕ} {at : ℕ} {e : Tree SourceSpan} → AndLevel t at e → OrLevel t at e
    union : {t : List ℕ} {at : ℕ} {op : OrOperator} {l r : Tree SourceSpan} (left blanks right : List ℕ)
        → OrLevel left at l → Blanks blanks → or_ends op right
        → AndLevel right (at + length left + length blanks + length (or_text op)) r
        → t ≡ left ++ (blanks ++ (or_text op ++ right)) → OrLevel t at (Union op l r)

-- the text spells the tree
pub record Spells (text : List ℕ) (e : Tree SourceSpan) : Type 0 where
  pub own : List ℕ
  pub behind : List ℕ
  pub whole : text ≡ own ++ behind
  pub expression : OrLevel own 0 e
  pub blanks : Blanks behind
