-- Patterns of the crate `regex`, and their matches.
use Rattle.std.specs.Prelude.{◌≡◌, ◌⊎◌, ◌↔◌, ℕ, ◌<◌, ◌≤◌, ◌==◌, ◌&&◌, not, Bool, true, false, List, [], ◌∷◌, length, map, count_by, Option, Some, None, option_map, IsSome, IsTrue, is_some, IsSomeAnd, IsCharBoundary, IsUtf8, get_or, chars, encode_utf8_all, string_bytes, if◌then◌else◌}
use Rattle.std.specs.{Char.is_ascii_punctuation, List.Any, Str.Iter.HasSubslice}
use Rattle.regex_syntax.specs.Grammar.{read}
use Rattle.regex_syntax.specs.declared.error.Error as parser
use Rattle.regex.specs.Patterns.{Matches, default_config, Re, find_str}
use Rattle.regex.specs.Strings.{regex_source, regex_config, IsReadFromSource, matcher_pattern}
use Rattle.regex.specs.declared.error.Error.{Error, TheVariants.Syntax, TheVariants.CompiledTooBig}
use Rattle.regex.specs.declared.string.regex.Regex.{Regex}
use Rattle.filterset_glob.specs.Signs.{sign, ◌∈◌}
use Rattle.filterset_matchers.specs.Compiled.{IsCompiledOf}
use Rattle.filterset_matchers.specs.declared.matcher.pattern.{Searched.Searched, Search.Search}
use Rattle.filterset_matchers.specs.declared.matcher.pattern.Searched.TheVariants as searched
use Rattle.filterset_matchers.specs.declared.matcher.pattern.Search.TheVariants as search

-- the grammar of `regex` reads the text, with its default options and within its limit on nesting
abbrev pub IsPattern : List ℕ → Type 0
IsPattern pattern =
    IsSomeAnd (read default_config (chars pattern)) (λ (found, _). found.depth ≤ default_config.nest_limit)

-- the expression matches some stretch of the text that begins between two characters
abbrev pub MatchesSomewhere : Re → List ℕ → Type 0
MatchesSomewhere expression text = (i : ℕ) × (j : ℕ) × IsCharBoundary text i × Matches text expression i j

-- the grammar reads the pattern, and what it reads matches somewhere in the text
abbrev pub HasMatch : List ℕ → List ℕ → Type 0
HasMatch pattern text =
    IsSomeAnd (read default_config (chars pattern)) (λ (found, _). MatchesSomewhere found.value text)

-- ---- plain patterns

-- the character has a meaning of its own in a pattern, outside of classes
abbrev pub has_meaning : ℕ → Bool
has_meaning c = c ∈ "\\.+*?()|[{^$"

-- A backslash makes the character stand for itself: it is ASCII punctuation. `\<` and `\>` stand for the borders of words.
abbrev pub is_escapable : ℕ → Bool
is_escapable c = is_ascii_punctuation c && not (c ∈ "<>")

-- The characters that those of a pattern stand for, if each stands for itself: because it has no meaning of its own, or
-- after a backslash. `escaped` says whether a backslash stands before the first.
abbrev pub plain_from : Bool → List ℕ → Option (List ℕ)
plain_from escaped [] = if escaped then None else Some []
plain_from escaped (c ∷ cs) =
    if escaped then (if is_escapable c then option_map (λ (text : List ℕ). c ∷ text) (plain_from false cs) else None)
    else if c == sign "\\" then plain_from true cs
    else if has_meaning c then None
    else option_map (λ (text : List ℕ). c ∷ text) (plain_from false cs)

-- the text that a plain pattern stands for
abbrev pub plain_text : List ℕ → Option (List ℕ)
plain_text pattern = option_map encode_utf8_all (plain_from false (chars pattern))

-- each character of the pattern stands for itself, so that it matches where the text stands that it stands for
abbrev pub IsPlain : List ℕ → Type 0
IsPlain pattern = IsSome (plain_text pattern)

-- ---- patterns that are rejected

-- how many bytes of the text are this one
abbrev pub count_byte : ℕ → List ℕ → ℕ
count_byte byte text = count_by (λ b. b == byte) text

-- a pattern that is too short to be compiled to anything large: it counts no repetitions, and few of its classes are
-- written as escapes
pub record IsSmall (pattern : List ℕ) : Type 0 where
  pub short : length pattern ≤ 1024
  pub few_escapes : count_byte (sign "\\") pattern ≤ 64
  pub no_braces : count_byte (sign "{") pattern ≡ 0

-- the grammar does not read the pattern; or it does, and what is compiled of it may be too large
abbrev pub IsUnreadOrLarge : List ℕ → Type 0
IsUnreadOrLarge pattern = (¬ IsPattern pattern) ⊎ (IsPattern pattern × ¬ IsSmall pattern)

-- The grammar reads the pattern, and what is compiled of it may be too large: of a plain pattern nothing is compiled, and
-- of a small one nothing large.
pub record MayBeTooLarge (pattern : List ℕ) : Type 0 where
  pub read : IsPattern pattern
  pub not_plain : ¬ IsPlain pattern
  pub not_small : ¬ IsSmall pattern

-- why a pattern may be rejected
abbrev pub MayBeRejected : List ℕ → Type 0
MayBeRejected pattern = (¬ IsPattern pattern) ⊎ MayBeTooLarge pattern

-- an error of syntax is for a text that the grammar does not read, and one of size for a text that it reads
pub record IsErrorFor (pattern : List ℕ) (error : Error) : Type 0 where
  pub syntax : (e : parser.Error) → error ≡ Syntax e → ¬ IsPattern pattern
  pub size : error ≡ CompiledTooBig → IsPattern pattern

-- ---- how patterns are searched for

-- the regex was built of the text
pub record IsBuiltOf (pattern : List ℕ) (regex : Regex) : Type 0 where
  pub source : regex_source regex ≡ pattern
  pub options : regex_config regex ≡ default_config
  pub read : IsReadFromSource regex

-- the expression is found in a text of bytes exactly where the pattern has a match
abbrev pub FindsAs : List ℕ → Re → Type 0
FindsAs pattern expression =
    (text : List ℕ) → ((k : ℕ) → get_or text k 0 < 256)
    → IsTrue (is_some (find_str expression text 0)) ↔ HasMatch pattern text

-- one of the texts stands somewhere in the input
abbrev pub HasOneOf : List (List ℕ) → List ℕ → Type 0
HasOneOf texts input = Any (λ text. HasSubslice input text) texts

-- the grammar reads the pattern, which has a match exactly where one of the texts stands
pub record IsChoice (pattern : List ℕ) (texts : List (List ℕ)) : Type 0 where
  pub read : IsPattern pattern
  pub finds : (input : List ℕ) → IsUtf8 input → ((k : ℕ) → get_or input k 0 < 256) → HasMatch pattern input ↔ HasOneOf texts input

-- the pattern is a choice of these texts, or it is what was compiled, or this regex was built of it
abbrev pub IsSearchedFor : List ℕ → Searched → Type 0
IsSearchedFor pattern (searched.Texts texts) = IsChoice pattern (map string_bytes texts.items)
IsSearchedFor pattern (searched.Compiled compiled) = IsCompiledOf pattern compiled.value
IsSearchedFor pattern (searched.Regex regex) = IsBuiltOf pattern regex.value

-- the search finds something exactly where the pattern has a match
abbrev pub SearchesFor : List ℕ → Search → Type 0
SearchesFor pattern (search.Texts texts) = IsChoice pattern (map string_bytes texts.now)
SearchesFor pattern (search.Compiled matcher) = IsCompiledOf pattern matcher.value.compiled.now
SearchesFor pattern (search.Regex matcher) = FindsAs pattern (matcher_pattern matcher.value)
