-- Compiled patterns, and the places of their matches.
use Rattle.std.specs.Prelude.{◌≡◌, ℕ, ◌≤◌, Bool, List, Option, Some, None, IsSomeAnd, true, false, chars, string_bytes}
use Rattle.std.specs.Str.Iter.{HasSubslice}
use Rattle.regex_hir.specs.{Meaning.meaning, declared.hir.Hir.Hir, Matches.IsMinLen}
use Rattle.regex_compile.specs.Implements.{Implements, HasPaths}
use Rattle.regex_dfa.specs.{Search.IsForwardFor, Search.IsReverseFor, declared.dfa.Dfa.Dfa, declared.forward.End.End}
use Rattle.regex_dfa.specs.declared.{forward.Forward.Forward, reverse.Start.Start, reverse.Reverse.Reverse}
use Rattle.regex_extract.specs.Bounds.{IsAnchored}
use Rattle.regex.specs.Patterns.{Matches, Re, SameCaptures, default_config}
use Rattle.regex.specs.Writes.{HasTextParts}
use Rattle.regex_syntax.specs.Grammar.{read}
use Rattle.filterset_matchers.specs.declared.matcher.compiled.{Compiled.Compiled, Place.Place, Walk.Walk}
use Rattle.filterset_matchers.specs.declared.matcher.compiled.Place.TheVariants as place
use Rattle.filterset_matchers.specs.declared.matcher.compiled.Walk.TheVariants as walk

-- the grammar reads the pattern, which matches as the tree does, and that whole characters alone
pub record IsReadAs (pattern : List ℕ) (tree : Hir) : Type 0 where
  pub same : IsSomeAnd (read default_config (chars pattern)) (λ (found, _).
      (found.depth ≤ default_config.nest_limit) × SameCaptures (meaning tree) found.value)
  pub text : HasTextParts (meaning tree)

-- each text in which the expression matches has the literal somewhere
abbrev pub HasLiteral : Re → List ℕ → Type 0
HasLiteral expression literal = (text : List ℕ) (i j : ℕ) → Matches text expression i j → HasSubslice text literal

-- Each match of the expression lies there. One that does not lie at the start of a text is not empty, so that it begins
-- where a character does.
abbrev pub IsPlaceOf : Re → Place → Type 0
IsPlaceOf expression place.Start = IsAnchored true expression
IsPlaceOf expression place.End = IsAnchored false expression × IsMinLen expression 1
IsPlaceOf expression (place.Literal literal) = HasLiteral expression (string_bytes literal) × IsMinLen expression 1

-- the grammar reads the pattern as a tree, which is compiled, and each match of the tree lies at the place
pub record IsCompiledOf (pattern : List ℕ) (compiled : Compiled) : Type 0 where
  pub tree : Hir
  pub read : IsReadAs pattern tree
  pub implements : Implements compiled.dfa.nfa (meaning tree)
  pub paths : HasPaths compiled.dfa.nfa (meaning tree)
  pub place : IsPlaceOf (meaning tree) compiled.place

-- what the walk has built, it has built for the DFA
abbrev pub WalksBy : Walk → Dfa → Type 0
WalksBy w dfa =
    ((forward : Forward) → w ≡ walk.Forward forward → IsForwardFor forward dfa)
    × ((reverse : Reverse) → w ≡ walk.Backward reverse → IsReverseFor reverse dfa)

-- what a walk that ended so tells of whether there is a match
abbrev pub told_by_end : End → Option Bool
told_by_end (End.At _) = Some true
told_by_end End.NoMatch = Some false
told_by_end _ = None

abbrev pub told_by_start : Start → Option Bool
told_by_start (Start.At _) = Some true
told_by_start Start.NoMatch = Some false
told_by_start Start.GaveUp = None
