-- What readers return.
use Rattle.std.specs.Prelude.{◌≡◌, ◌≢◌, ◌+◌, ◌≤◌, ℕ, false, List, [], ◌∷◌, ◌++◌, IsSomeAnd, length, drop, slice_get, take, None, Some, Result, Ok, Err}
use Rattle.std.specs.{List.All, List.AllZip, Borrow.Bor, Str.Lines.lines}
use Rattle.filterset_configuration.specs.PlatformGrammar.{BeginsWithWord, IsLine, Spells, is_triple_byte}
use Rattle.filterset_configuration.specs.{PlatformTrees.Setting, PlatformTrees.Spec, PlatformValues.lacking}
use Rattle.filterset_configuration.specs.declared.platforms.fault.{CfgRefusal.CfgRefusal, Expected.Expected}
use Rattle.filterset_configuration.specs.declared.platforms.fault.Expected.TheVariants.{Expression, OpenParenthesis, CloseParenthesis, CommaOrCloseParenthesis, Value, End, TripleCharacter}
use Rattle.filterset_configuration.specs.declared.platforms.fault.{PlatformRefusal.PlatformRefusal, ReadError.ReadError}
use Rattle.filterset_configuration.specs.declared.platforms.fault.ReadError.TheVariants.{OutOfMemory, Fault}
use Rattle.filterset_json.specs.Shape.{Text}
use Rattle.filterset_configuration.specs.declared.platforms.fault.CfgRefusal.TheVariants as refusals
use Rattle.filterset_configuration.specs.declared.platforms.fault.PlatformRefusal.TheVariants as platforms

abbrev pub IsOutOfMemory : ReadError → Type 0
IsOutOfMemory OutOfMemory = Unit {0}
IsOutOfMemory (Fault left expected) = ⊥

-- the reader returns this value, unless it is out of memory
abbrev pub Returns : {X Y : Type 0} → (X → Y) → Result X ReadError → Y → Type 0
Returns view (Ok x) y = view x ≡ y
Returns view (Err e) y = IsOutOfMemory e

-- the same of a value and the rest of the text
abbrev pub Gives : {X Y : Type 0} → (X → Y) → Result (X × Bor Text) ReadError → Y → Text → Type 0
Gives view (Ok x) y r = (view x.0 ≡ y) × (x.1.now ≡ r)
Gives view (Err e) y r = IsOutOfMemory e

-- the text ends in the rest
abbrev pub IsRest : Text → Text → Type 0
IsRest text rest = (before : Text) × (text ≡ before ++ rest)

-- nothing of what is expected is at the front; 34, 40, 41 and 44 are the quote, the parentheses and the comma
abbrev pub Lacks : Expected → Text → Type 0
Lacks Expression t = (word u : Text) → BeginsWithWord word t u → ⊥
Lacks OpenParenthesis t = (u : Text) → t ≢ 40 ∷ u
Lacks CloseParenthesis t = (u : Text) → t ≢ 41 ∷ u
Lacks CommaOrCloseParenthesis t = ((u : Text) → t ≢ 44 ∷ u) × ((u : Text) → t ≢ 41 ∷ u)
Lacks Value t = (value u : Text) → All (λ b. b ≢ 34) value → t ≢ 34 ∷ (value ++ (34 ∷ u))
Lacks End t = t ≢ []
Lacks TripleCharacter t = (b : ℕ) (u : Text) → t ≡ b ∷ u → is_triple_byte b ≡ false

-- what is expected is lacking so many bytes before the end of the text
abbrev pub IsTrueOf : Text → ReadError → Type 0
IsTrueOf text OutOfMemory = Unit {0}
IsTrueOf text (Fault left expected) = (t : Text) × IsRest text t × (left ≡ length t) × Lacks expected t

-- a reader goes on in the text, or its fault is true
abbrev pub IsPlaced : {X : Type 0} → Text → Result (X × Bor Text) ReadError → Type 0
IsPlaced text (Ok x) = IsRest text x.1.now
IsPlaced text (Err e) = IsTrueOf text e

-- the text spells no platform, and what is expected is lacking at this offset
abbrev pub FaultStands : Text → PlatformRefusal → Type 0
FaultStands text (platforms.OutOfMemory error) = Unit {0}
FaultStands text (platforms.Fault fault) =
    ((spec : Spec) → ¬ Spells text spec) × (fault.offset ≤ length text) × Lacks fault.expected (drop fault.offset text)

-- the lines of the text are these settings of a platform
abbrev pub AreSettings : Text → List Setting → Type 0
AreSettings text ss = AllZip IsLine (lines text) ss × (lacking ss ≡ None)

-- the refused line, counted from 1, is the first that is of no setting; or the lines are settings that lack this
abbrev pub Refuses : Text → CfgRefusal → Type 0
Refuses text (refusals.OutOfMemory error) = Unit {0}
Refuses text (refusals.Lacks key) = (ss : List Setting) × AllZip IsLine (lines text) ss × (lacking ss ≡ Some key.now)
Refuses text (refusals.Line number) = (at : ℕ) × (ss : List Setting) × (number ≡ at + 1)
    × AllZip IsLine (take at (lines text)) ss
    × IsSomeAnd (slice_get (lines text) at) (λ line. (s : Setting) → ¬ IsLine line s)
