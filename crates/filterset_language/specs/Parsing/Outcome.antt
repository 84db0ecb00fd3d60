-- What a reader promises although `regex` may reject patterns: the definitions read each pattern as the text spells it,
-- and the reader returns no value if one was rejected.
use Rattle.std.specs.Prelude.{◌≡◌, ℕ, ◌+◌, ◌<◌, ◌≤◌, List, ◌++◌, length, All, Option, None, Some, Box, Result, IfOk}
use Rattle.std.specs.Option.{option_map}
use Rattle.filterset_grammar.specs.{Text.Body, Tree.Leaf, Tree.Set}
use Rattle.filterset_grammar.specs.Patterns.{MatcherIsRead, LeafIsRead, PatternsAreRead}
use Rattle.filterset_language.specs.Parsing.Position.{Position, position_of}
use Rattle.filterset_language.specs.{Views.leaf_of, Faults.piece, Parsed.LiesOnBody}
use Rattle.filterset_language.specs.Parsing.Descent.{Placed, Reader, Next, Make, more, boxed_tree}
use Rattle.filterset_language.specs.Parsing.Recovery.{FaultList}
use Rattle.filterset_language.specs.declared.parsing.input.{Input.Input, Read.Read}
use Rattle.filterset_language.specs.declared.tree.{ParsedExpr.ParsedExpr, ParsedLeaf.ParsedLeaf}
use Rattle.filterset_matchers.specs.{Matcher.Matcher, Matcher.Regex, Pattern.MayBeRejected, Matchers.matcher_of}
use Rattle.filterset_matchers.specs.declared.matcher.NameMatcher.{NameMatcher}
use Rattle.filterset_faults.specs.declared.{span.SourceSpan.SourceSpan, error.ParseSingleError.ParseSingleError}
use Rattle.filterset_faults.specs.declared.error.ParseSingleError.TheVariants.{InvalidRegexWithoutMessage}

abbrev pub Faults : Type 0
Faults = List ParseSingleError

-- What stands there is y: it comes without a new fault and is good, or it does not come, and there are new faults, all
-- on it.
pub data Carried {Y : Type 0} (Good : Y → Type 0) (On : Y → ParseSingleError → Type 0) (old new : Faults)
    (value : Option Y) (y : Y) : Type 0 where
  comes : new ≡ old → value ≡ Some y → Good y → Carried Good On old new value y
  refused : (added : Faults)
      → new ≡ old ++ added → 0 < length added → All (On y) added → value ≡ None → Carried Good On old new value y

-- What a reader gives: what reading gives, carried, or new faults where reading gives nothing.
pub data Gives {Y : Type 0} (Good : Y → Type 0) (On : Y → ParseSingleError → Type 0) (old new : Faults)
    (value : Option Y) (q : Position) (read : Option (Y × Position)) : Type 0 where
  reads : (y : Y) → Carried Good On old new value y → read ≡ Some (y, q) → Gives Good On old new value q read
  fails : length old < length new → read ≡ None → Gives Good On old new value q read

-- the same of a tree, whose patterns are read, from the first operand of a level on, seen after the operands so far
pub data Going {O : Type 0} (next : Next O) (make : Make O) (text : List ℕ) (old new : Faults) (left : Option Placed)
    (p : Position) (read : Reader) (total : Option (Placed × Position)) : Type 0 where
  goes : (e : Placed) → Carried PatternsAreRead (LiesOnBody text) old new left e → (m : ℕ) → length p.rest ≤ m
      → more next make read m e p ≡ total → Going next make text old new left p read total
  failed : length old < length new → total ≡ None → Going next make text old new left p read total

-- the fault is that the body at this span is rejected, by whose pattern the matcher is, and which may be rejected
abbrev pub RefusesBody : SourceSpan → Matcher → ParseSingleError → Type 0
RefusesBody at (Regex pattern) fault = (fault ≡ InvalidRegexWithoutMessage at) × MayBeRejected pattern
RefusesBody at _ fault = ⊥

-- the matcher by the pattern of the body at a span
abbrev pub MakesPattern : SourceSpan → Faults → Faults → Option Matcher → Matcher → Type 0
MakesPattern at old new value m = Carried MatcherIsRead (RefusesBody at) old new value m

-- the fault lies on the body of the matcher, which ends with the slash after it at the offset
pub record LiesOnPattern (text : List ℕ) (end : ℕ) (m : Matcher) (fault : ParseSingleError) : Type 0 where
  pub at : SourceSpan
  pub is : fault ≡ InvalidRegexWithoutMessage at
  pub pattern : List ℕ
  pub is_regex : m ≡ Regex pattern
  pub rejected : MayBeRejected pattern
  pub body : Body (piece text at) pattern
  pub ends : end ≡ at.offset + at.len + 1

-- what a reader of matchers, of predicates and of expressions gives
abbrev pub GivesMatcher : List ℕ → Faults → Faults → Option Matcher → Position → Option (Matcher × Position) → Type 0
GivesMatcher text old new value q read = Gives MatcherIsRead (LiesOnPattern text q.at) old new value q read

abbrev pub GivesLeaf : List ℕ → Faults → Faults → Option (Leaf SourceSpan) → Position → Option (Leaf SourceSpan × Position)
    → Type 0
GivesLeaf text old new value q read = Gives LeafIsRead (λ l. LiesOnBody text (Set l)) old new value q read

abbrev pub GivesTree : List ℕ → Faults → Faults → Option Placed → Position → Option (Placed × Position) → Type 0
GivesTree text old new value q read = Gives PatternsAreRead (LiesOnBody text) old new value q read

-- The same of a reader's result, with these faults before it and after it, against what reading gives at the input.
abbrev pub ReadsMatcher : {E : Type 0}
    → Input → FaultList → FaultList → Result (Read NameMatcher) E → (Position → Option (Matcher × Position)) → Type 0
ReadsMatcher input old new result read =
    IfOk result (λ r. GivesMatcher input.text.now old.items new.items
    (option_map matcher_of r.value) (position_of r.end) (read (position_of input)))

abbrev pub ReadsLeaf : {E : Type 0}
    → Input → FaultList → FaultList → Result (Read (ParsedLeaf SourceSpan)) E
    → (Position → Option (Leaf SourceSpan × Position)) → Type 0
ReadsLeaf input old new result read =
    IfOk result (λ r. GivesLeaf input.text.now old.items new.items
    (option_map leaf_of r.value) (position_of r.end) (read (position_of input)))

-- Reading may nest as deeply as n tells, for every n that is at least the length of what is left.
abbrev pub ReadsTree : {A E : Type 0}
    → Input → FaultList → FaultList → Result (Read (Box (ParsedExpr SourceSpan) A)) E → (ℕ → Reader) → Type 0
ReadsTree input old new result read =
    IfOk result (λ r. (n : ℕ) → length input.rest.now ≤ n
    → GivesTree input.text.now old.items new.items
    (option_map boxed_tree r.value) (position_of r.end) (read n (position_of input)))

-- After the first operand of a level: what comes is what reading gives from the first one on.
abbrev pub ReadsOn : {O A E : Type 0}
    → Next O → Make O → (ℕ → Reader) → Read (Box (ParsedExpr SourceSpan) A) → FaultList → FaultList
    → Result (Read (Box (ParsedExpr SourceSpan) A)) E → Type 0
ReadsOn next make read first old new result =
    IfOk result (λ r. (n : ℕ) (before : Faults) (total : Option (Placed × Position)) → length first.end.rest.now ≤ n
    → Going next make first.end.text.now before old.items
    (option_map boxed_tree first.value) (position_of first.end) (read n) total
    → GivesTree first.end.text.now before new.items (option_map boxed_tree r.value) (position_of r.end) total)
