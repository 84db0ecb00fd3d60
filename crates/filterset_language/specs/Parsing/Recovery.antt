-- What a reader promises that goes on after a fault.
use Rattle.std.specs.Prelude.{◌≡◌, ℕ, ◌<◌, ◌≤◌, List, length, take, codes, Option, None, Some, IsSome, All, Bool, true, false, Result, IfOk, Vec}
use Rattle.std.specs.{Option.option_map, declared.alloc.Global.Global}
use Rattle.filterset_language.specs.Faults.{FaultStands, BeforeOperand, EndsWith, Misplaced, misplaced_and, misplaced_or, misplaced_AND, misplaced_OR, misplaced_ampersands, misplaced_pipes}
use Rattle.filterset_language.specs.Parsing.Descent.{Placed, ◌>>=◌, Make}
use Rattle.filterset_language.specs.Parsing.Position.{Position, position_of, skip, after, after_word, IsAtOrBehind}
use Rattle.filterset_language.specs.Parsing.Words.{name_at, not_at, name_text}
use Rattle.filterset_language.specs.declared.parsing.input.{Input.Input, Read.Read}
use Rattle.filterset_language.specs.declared.parsing.names.PredicateName.{PredicateName}
use Rattle.filterset_faults.specs.declared.error.ParseSingleError.{ParseSingleError}
use Rattle.filterset_faults.specs.declared.error.ParseSingleError.TheVariants.{ExpectedEndOfExpression}

-- the list of faults grows; without a new fault the value is what reading gives, and with one reading gives nothing
pub record Recovers {X : Type 0} (old new : List ParseSingleError) (value read : Option X) : Type 0 where
  pub grows : length old ≤ length new
  pub clean : length new ≡ length old → (new ≡ old) × (read ≡ value) × IsSome value
  pub fault : length old < length new → read ≡ None

-- the faults of a text
abbrev pub FaultList : Type 0
FaultList = Vec ParseSingleError Global

-- whether the fault is that the expression ends before the text
abbrev pub is_unread : ParseSingleError → Bool
is_unread (ExpectedEndOfExpression s) = true
is_unread _ = false

-- a fault that a reader of a part of the text reports
pub record Found (text : List ℕ) (fault : ParseSingleError) : Type 0 where
  pub stands : FaultStands text fault
  pub inside : is_unread fault ≡ false

-- all these faults are of that kind
pub record AllFound (text : List ℕ) (faults : List ParseSingleError) : Type 0 where
  pub each : All (Found text) faults

-- where all faults were found in the text, all still are
abbrev pub Keeps : List ℕ → List ParseSingleError → List ParseSingleError → Type 0
Keeps text old new = AllFound text old → AllFound text new

-- a value, where there is one, and the position after it
abbrev pub beside : {Y : Type 0} → Position → Option Y → Option (Y × Position)
beside q value = option_map (λ y. (y, q)) value

-- what a reader carries: the value, seen by a view, and the position after it
abbrev pub carried : {X Y : Type 0} → (X → Y) → Read X → Option (Y × Position)
carried view r = beside (position_of r.end) (option_map view r.value)

-- a step over a text, with these faults before it and after it: the position after it is the one that reading gives, or
-- a fault was added where reading gives none
abbrev pub StepsOver : {E : Type 0} → FaultList → FaultList → Result Input E → Option Position → Type 0
StepsOver old new result read = IfOk result (λ r. Recovers old.items new.items (Some (position_of r)) read)

-- the same of what is read, seen by a view
abbrev pub ReadsAs : {X Y E : Type 0}
    → (X → Y) → FaultList → FaultList → Result (Read X) E → Option (Y × Position) → Type 0
ReadsAs view old new result read = IfOk result (λ r. Recovers old.items new.items (carried view r) read)

-- where all faults before were found in the text of the input, all faults after are
abbrev pub StillStand : {X E : Type 0} → Input → FaultList → FaultList → Result X E → Type 0
StillStand input old new result = IfOk result (λ r. Keeps input.text.now old.items new.items)

-- reading goes on at the input or after it
abbrev pub GoesOn : {E : Type 0} → Input → Result Input E → Type 0
GoesOn input result = IfOk result (λ r. IsAtOrBehind input r)

-- what is read ends at the input or after it
abbrev pub EndsBehind : {X E : Type 0} → Input → Result (Read X) E → Type 0
EndsBehind input result = IfOk result (λ r. IsAtOrBehind input r.end)

-- an operator and its operands, where all three are there
abbrev pub joined : {O : Type 0} → Make O → Option O → Option Placed → Option Placed → Option Placed
joined make op left right = op >>= λ o. left >>= λ l. right >>= λ r. Some (make o l r)

-- an operator was looked at: an invalid one is reported
abbrev pub Checked : {O : Type 0} → Option O → List ParseSingleError → List ParseSingleError → Type 0
Checked (Some op) old new = new ≡ old
Checked None old new = length old < length new

-- an operand may stand at the input
pub record AtOperand (input : Input) : Type 0 where
  pub before : BeforeOperand (take input.offset input.text.now)

-- a predicate's name ends at the input
abbrev pub AtName : PredicateName → Input → Type 0
AtName name input = EndsWith (take input.offset input.text.now) (name_text name)

-- what stands after the operator, where it stands at the position; a word has to end
abbrev pub behind_misplaced : {op suggest : List ℕ} → Misplaced op suggest → Position → Option Position
behind_misplaced misplaced_and p = after_word (codes "and") p
behind_misplaced misplaced_or p = after_word (codes "or") p
behind_misplaced misplaced_AND p = after_word (codes "AND") p
behind_misplaced misplaced_OR p = after_word (codes "OR") p
behind_misplaced misplaced_ampersands p = after (codes "&&") p
behind_misplaced misplaced_pipes p = after (codes "||") p

-- an operator stands at a position where an operand belongs
pub record IsMisplaced (p : Position) (op suggest : List ℕ) (q : Position) : Type 0 where
  pub suggested : Misplaced op suggest
  pub stands : behind_misplaced suggested p ≡ Some q

-- after the blanks no operand begins
pub record NoOperand (p s : Position) : Type 0 where
  pub skipped : s ≡ skip p
  pub no_name : None ≡ name_at s
  pub no_not : None ≡ not_at s
  pub no_open : None ≡ after (codes "(") s
