-- How expressions are read. Public contracts cite the grammar instead.
use Rattle.std.specs.Prelude.{ℕ, zero, suc, ◌-◌, List, length, take, codes, Bool, true, false, ◌==◌, Option, Some, None, Box, if◌then◌else◌}
use Rattle.filterset_language.specs.Parsing.{Front.close_len, Front.is_white, Globs.glob_in, PlatformNames.platform_in}
use Rattle.filterset_language.specs.Parsing.Position.{Position, position, advanced, skip, after}
use Rattle.filterset_language.specs.Parsing.RawTexts.{raw_at, body_at}
use Rattle.filterset_language.specs.Parsing.Words.{choose, not_at, joiner_at, or_at, name_at}
use Rattle.filterset_language.specs.Views.{tree_of}
use Rattle.filterset_language.specs.declared.{parsing.names.PredicateName.PredicateName, tree.ParsedExpr.ParsedExpr}
use Rattle.filterset_grammar.specs.Grammar.{own_matching}
use Rattle.filterset_grammar.specs.Tree.{Leaf, Matching, Platform, Default, Tree, Not, Union, Join, Parens, Set}
use Rattle.filterset_grammar.specs.declared.{operators.Joiner.Joiner, predicate.Predicate.Predicate}
use Rattle.filterset_grammar.specs.declared.{operators.NotOperator.NotOperator, operators.OrOperator.OrOperator, predicate.TextMatching.TextMatching}
use Rattle.filterset_matchers.specs.Matcher.{Matcher, Equal, Contains, Regex}
use Rattle.filterset_grammar.specs.Tree as tree
use Rattle.filterset_faults.specs.{Span.span, declared.span.SourceSpan.SourceSpan}
use Rattle.filterset_grammar.specs.declared.predicate.TextMatching.TheVariants as ways
use Rattle.filterset_language.specs.declared.parsing.names.PredicateName.TheVariants as names

-- a tree with the spans of a text
abbrev pub Placed : Type 0
Placed = Tree SourceSpan

-- a tree in a box
abbrev pub boxed_tree : {A : Type 0} → Box (ParsedExpr SourceSpan) A → Placed
boxed_tree b = tree_of b.value

-- what comes of a value, where there is one
infixl 10 ◌>>=◌
abbrev pub ◌>>=◌ : {A B : Type 0} → Option A → (A → Option B) → Option B
(Some x) >>= f = f x
None >>= f = None

-- ---- matchers

-- the pattern of a body, as a matcher
abbrev pub regex_at : Position → Option (Matcher × Position)
regex_at p = body_at p >>= λ x. Some (Regex x.0.0, x.1)

-- how a matcher with the sign that stands here matches, whether it has none, and the position after it; or the other
abbrev pub signed_or : Option Position → TextMatching → (TextMatching × Bool) × Position → (TextMatching × Bool) × Position
signed_or (Some q) matching other = ((matching, false), q)
signed_or None matching other = other

-- the sign that stands here, and the position after it
abbrev pub sign_at : Predicate → Position → (TextMatching × Bool) × Position
sign_at predicate p =
    signed_or (after (codes "#") p) ways.Glob
    (signed_or (after (codes "=") p) ways.Equal
    (signed_or (after (codes "~") p) ways.Contains ((own_matching predicate, true), p)))

-- the matcher of a value
abbrev pub made : TextMatching × Bool → List ℕ → Option Matcher
made (ways.Equal, implicit) value = Some (Equal value implicit)
made (ways.Contains, implicit) value = Some (Contains value implicit)
made (ways.Glob, implicit) value = glob_in value implicit

-- a sign and a text
abbrev pub signed_text : (TextMatching × Bool) × Position → Option (Matcher × Position)
signed_text s = raw_at s.1 >>= λ x. made s.0 x.0 >>= λ m. Some (m, x.1)

-- a matcher that is no regular expression
abbrev pub text_matcher_at : Predicate → Position → Option (Matcher × Position)
text_matcher_at predicate p = signed_text (sign_at predicate p)

-- a matcher
abbrev pub matcher_at : Predicate → Position → Option (Matcher × Position)
matcher_at predicate p = choose (after (codes "/") p) regex_at (text_matcher_at predicate p)

-- ---- predicates

-- the span between two offsets
abbrev pub between : ℕ → ℕ → SourceSpan
between offset end = span offset (end - offset)

-- the argument of a predicate that takes a matcher, and the closing parenthesis
abbrev pub matching_at : Predicate → Position → Option (Leaf SourceSpan × Position)
matching_at predicate p =
    matcher_at predicate (skip p) >>= λ x. after (codes ")") (skip x.1)
    >>= λ r. Some (Matching predicate x.0 (between p.at x.1.at), r)

-- the argument of `platform`, and the closing parenthesis
abbrev pub platform_at : Position → Option (Leaf SourceSpan × Position)
platform_at p =
    raw_at (skip p) >>= λ x. after (codes ")") (skip x.1)
    >>= λ r. platform_in x.0 >>= λ q. Some (Platform q (between p.at x.1.at), r)

-- white space and a closing parenthesis
abbrev pub bare_end_at : Position → Option Position
bare_end_at p =
    if is_white (take (close_len p.rest) p.rest) then after (codes ")") (advanced (close_len p.rest) p)
    else None

-- the rest of a predicate without an argument
abbrev pub bare_at : Leaf SourceSpan → Position → Option (Leaf SourceSpan × Position)
bare_at l p = bare_end_at p >>= λ r. Some (l, r)

-- the rest of `default`, which begins at an offset
abbrev pub default_at : ℕ → Position → Option (Leaf SourceSpan × Position)
default_at start p = bare_end_at p >>= λ r. Some (Default (between start r.at), r)

-- what stands after a predicate's opening parenthesis; the predicate begins at the offset
abbrev pub argument_at : PredicateName → ℕ → Position → Option (Leaf SourceSpan × Position)
argument_at (names.Matching name) start p = matching_at name p
argument_at names.Platform start p = platform_at p
argument_at names.Default start p = default_at start p
argument_at names.All start p = bare_at tree.All p
argument_at names.None start p = bare_at tree.None p

-- what stands after a predicate's name
abbrev pub leaf_at : PredicateName → ℕ → Position → Option (Leaf SourceSpan × Position)
leaf_at name start p = after (codes "(") (skip p) >>= λ q. argument_at name start q

-- ---- expressions

-- what reads an expression: its tree and the position after it
abbrev pub Reader : Type 0
Reader = Position → Option (Placed × Position)

-- what reads an operator of a level, without a value where it is an invalid one
abbrev pub Next : Type 0 → Type 0
Next O = Position → Option (Option O × Position)

-- what an operator makes of its operands
abbrev pub Make : Type 0 → Type 0
Make O = O → Placed → Placed → Placed

-- operands of a level after the first; n is at least the length of what is left
abbrev pub more : {O : Type 0} → Next O → Make O → Reader → ℕ → Placed → Reader
more next make read zero left p = Some (left, p)
more next make read (suc n) left p =
    choose (next (skip p)) (λ x. x.0 >>= λ op. read x.1 >>= λ y. more next make read n (make op left y.0) y.1)
    (Some (left, p))

-- operands of a level and the operators between them
abbrev pub level_by : {O : Type 0} → Next O → Make O → Reader → Reader
level_by next make read p = read p >>= λ x. more next make read (length x.1.rest) x.0 x.1

-- the level of `and`
abbrev pub join : Make Joiner
join op left right = Join op left right

-- the level of `and` over what reads an operand
abbrev pub and_level_by : Reader → Reader
and_level_by read p = level_by joiner_at join read p

-- the level of `or`
abbrev pub unite : Make OrOperator
unite op left right = Union op left right

-- the level of `or` over what reads an operand of the level of `and`
abbrev pub or_level_by : Reader → Reader
or_level_by read p = level_by or_at unite (and_level_by read) p

-- a predicate after its name, as a tree; the predicate begins at the offset
abbrev pub set_at : PredicateName → ℕ → Position → Option (Placed × Position)
set_at name start p = leaf_at name start p >>= λ l. Some (Set l.0, l.1)

-- the operand of a negation
abbrev pub negated_by : NotOperator → Reader → Reader
negated_by op read p = read p >>= λ e. Some (Not op e.0, e.1)

-- an expression and a closing parenthesis
abbrev pub enclosed_by : Reader → Reader
enclosed_by read p = or_level_by read p >>= λ e. after (codes ")") (skip e.1) >>= λ r. Some (Parens e.0, r)

-- an operand after its blanks: a predicate, a negation or parentheses
abbrev pub operand_by : Reader → Reader
operand_by read p =
    choose (name_at p) (λ x. set_at x.0 p.at x.1)
    (choose (not_at p) (λ x. negated_by x.0 read x.1) (after (codes "(") p >>= λ q. enclosed_by read q))

-- n is at least the number of nested operands
unfoldable pub operand_at : ℕ → Reader
operand_at zero p = None
operand_at (suc n) p = operand_by (operand_at n) (skip p)

-- the whole text: after the expression and blanks stands nothing
abbrev pub nothing_behind : Placed → Position → Option Placed
nothing_behind e p = if length p.rest == 0 then Some e else None

-- the tree of a whole text
abbrev pub whole_by : ℕ → List ℕ → Option Placed
whole_by n text = or_level_by (operand_at (suc n)) (position 0 text) >>= λ x. nothing_behind x.0 (skip x.1)
