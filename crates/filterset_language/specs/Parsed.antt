-- What parsing a text returns.
use Rattle.std.specs.Prelude.{◌≡◌, ◌≢◌, ℕ, ◌+◌, List, [], All, Some, None}
use Rattle.std.specs.{List.Contains, Option.option_map}
use Rattle.filterset_grammar.specs.{Text.Body, Tree.Matching, Tree.Tree, Tree.tree_leaves}
use Rattle.filterset_grammar.specs.{declared.predicate.Predicate.Predicate, Grammar.Spells, Patterns.PatternsAreRead}
use Rattle.filterset_matchers.specs.{Matcher.Regex, Pattern.MayBeRejected, Pattern.MayBeTooLarge}
use Rattle.filterset_language.specs.{Views.tree_of, Faults.piece, Faults.FaultStands}
use Rattle.filterset_language.specs.declared.parsing.parse.{Parsed.Parsed, ParseStop.ParseStop}
use Rattle.filterset_language.specs.declared.parsing.parse.ParseStop.TheVariants.{Faults, OutOfMemory}
use Rattle.filterset_faults.specs.declared.{span.SourceSpan.SourceSpan, error.ParseSingleError.ParseSingleError}
use Rattle.filterset_faults.specs.declared.error.ParseSingleError.TheVariants.{InvalidRegexWithoutMessage}

-- the text spells the tree, and the grammar of `regex` reads each of its patterns
pub record Reads (text : List ℕ) (e : Tree SourceSpan) : Type 0 where
  pub spelled : Spells text e
  pub patterns : PatternsAreRead e

-- the fault says that the body of one of the tree's regular expressions is rejected, whose pattern the grammar of `regex`
-- does not read, or may be too large: it lies on that body, and the span of the predicate ends after the slash that follows
pub record LiesOnBody (text : List ℕ) (e : Tree SourceSpan) (fault : ParseSingleError) : Type 0 where
  pub at : SourceSpan
  pub is : fault ≡ InvalidRegexWithoutMessage at
  pub predicate : Predicate
  pub pattern : List ℕ
  pub argument : SourceSpan
  pub is_leaf : Contains (tree_leaves e) (Matching predicate (Regex pattern) argument)
  pub rejected : MayBeRejected pattern
  pub body : Body (piece text at) pattern
  pub end : argument.offset + argument.len ≡ at.offset + at.len + 1

-- the same, and it is the size of the pattern for which it is rejected: the grammar of `regex` reads it
pub record LiesOnLargeBody (text : List ℕ) (e : Tree SourceSpan) (fault : ParseSingleError) : Type 0 where
  pub lies : LiesOnBody text e fault
  pub large : MayBeTooLarge lies.pattern

-- the tree comes
abbrev pub Comes : Parsed → Tree SourceSpan → Type 0
Comes p e = option_map tree_of p.tree ≡ Some e

-- no tree comes, but faults, each on the body of one of the tree's regular expressions
pub record HasRefusedBodies (text : List ℕ) (e : Tree SourceSpan) (p : Parsed) : Type 0 where
  pub no_tree : p.tree ≡ None
  pub some : p.faults.items ≢ []
  pub bodies : All (LiesOnBody text e) p.faults.items

-- no tree is spelled by the text
abbrev pub SpellsNothing : List ℕ → Type 0
SpellsNothing text = (e : Tree SourceSpan) → Spells text e → ⊥

-- there are faults, each of which stands; where the text spells a tree all the same, each lies on the body of one of
-- its regular expressions
pub record IsUnreadWith (text : List ℕ) (faults : List ParseSingleError) : Type 0 where
  pub some : faults ≢ []
  pub stand : All (FaultStands text) faults
  pub bodies : (e : Tree SourceSpan) → Spells text e → All (LiesOnBody text e) faults

-- why a text has no tree: its faults, or out of memory
abbrev pub IsRefusalOf : List ℕ → ParseStop → Type 0
IsRefusalOf text (Faults faults) = IsUnreadWith text faults.items
IsRefusalOf text (OutOfMemory error) = Unit {0}
