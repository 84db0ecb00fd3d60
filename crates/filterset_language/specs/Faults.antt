-- What is true of a text where a fault is reported.
use Rattle.std.specs.Prelude.{◌≡◌, ◌≢◌, ℕ, ◌+◌, ◌≤◌, min, List, [], ◌∷◌, ◌++◌, take, drop, codes, chars, All, IfSome, Option, Some, None, IsCharBoundary, ◌⊎◌}
use Rattle.std.specs.List.{Contains}
use Rattle.std.specs.Prelude as std
use Rattle.filterset_grammar.specs.{Text.Blanks, Text.WhiteSpace, Text.Escape, Text.Spelled, Text.Body, Bans.ban_reason}
use Rattle.filterset_grammar.specs.Tree.{Leaf, Tree, Matching, Platform, Default, leaf_without_span, tree_leaves}
use Rattle.filterset_grammar.specs.declared.{operators.Joiner.Joiner, predicate.Predicate.Predicate}
use Rattle.filterset_grammar.specs.declared.predicate.Predicate.TheVariants.{Package, Deps, Rdeps, Binary, BinaryId, Group}
use Rattle.filterset_grammar.specs.Platforms.{Names}
use Rattle.filterset_grammar.specs.Grammar.{Name, not_text, not_ends, or_text, join_text, Spells}
use Rattle.filterset_grammar.specs.declared.operators.{NotOperator.NotOperator, OrOperator.OrOperator}
use Rattle.filterset_grammar.specs.Tree as tree
use Rattle.filterset_glob.specs.Faults as glob
use Rattle.filterset_glob.specs.{Grammar.GlobText, Signs.sign, Tokens.Tokens}
use Rattle.filterset_faults.specs.Faults.{span_of}
use Rattle.filterset_faults.specs.declared.{span.SourceSpan.SourceSpan, error.ParseSingleError.ParseSingleError}
use Rattle.filterset_faults.specs.declared.error.ParseSingleError.TheVariants.{InvalidGlob, BannedPredicate, InvalidRegexWithoutMessage, ExpectedCloseRegex, InvalidOrOperator, InvalidAndOperator, UnexpectedArgument, UnexpectedComma, InvalidString, ExpectedOpenParenthesis, ExpectedCloseParenthesis, InvalidEscapeCharacter, ExpectedExpr, ExprFoundBinaryOp, ExprFoundUnaryOp, ExpectedEndOfExpression, NoPackageMatch, NoGroupMatch, NoBinaryIdMatch, NoBinaryNameMatch, InvalidPlatformArgument, UnsupportedExpression, Unknown}
use Rattle.filterset_graph.specs.declared.package.BuildPlatform.{BuildPlatform}
use Rattle.filterset_matchers.specs.Pattern.{MayBeRejected}

-- ---- a span of a text

-- the text before a span
abbrev pub before : List ℕ → SourceSpan → List ℕ
before text s = take s.offset text

-- the text from the first byte of a span on
abbrev pub onward : List ℕ → SourceSpan → List ℕ
onward text s = drop s.offset text

-- the text of a span
abbrev pub piece : List ℕ → SourceSpan → List ℕ
piece text s = take s.len (onward text s)

-- the text after a span
abbrev pub behind : List ℕ → SourceSpan → List ℕ
behind text s = drop s.len (onward text s)

-- a position, which has no length
abbrev pub IsPoint : SourceSpan → Type 0
IsPoint s = s.len ≡ 0

-- the span ends where the text ends
abbrev pub RunsToEnd : List ℕ → SourceSpan → Type 0
RunsToEnd text s = s.offset + s.len ≡ std.length text

-- ---- what stands before, after and between

-- the word stands at the end of the text
pub record EndsWith (t word : List ℕ) : Type 0 where
  pub front : List ℕ
  pub parts : t ≡ front ++ word

-- the word stands at the front of the text
pub record BeginsWith (word t : List ℕ) : Type 0 where
  pub rest : List ℕ
  pub parts : t ≡ word ++ rest

-- the word stands in the text after some blanks
pub record BehindBlanks (word t : List ℕ) : Type 0 where
  pub blanks : List ℕ
  pub are : Blanks blanks
  pub rest : List ℕ
  pub parts : t ≡ blanks ++ (word ++ rest)

-- a `)` or the end
pub data ClosesArgument : List ℕ → Type 0 where
  at_end : ClosesArgument []
  at_close : {t : List ℕ} → ClosesArgument (sign ")" ∷ t)

-- a `,`, a `)` or the end
pub data EndsText : List ℕ → Type 0 where
  comma : {t : List ℕ} → EndsText (sign "," ∷ t)
  closed : {t : List ℕ} → ClosesArgument t → EndsText t

-- the name of a predicate
pub data IsName : List ℕ → Type 0 where
  matching : (p : Predicate) → IsName (Name p)
  platform : IsName (codes "platform")
  default : IsName (codes "default")
  all : IsName (codes "all")
  none : IsName (codes "none")

-- an operator of the level of `or` as other languages write it
pub data InvalidOr : List ℕ → Type 0 where
  pipes : InvalidOr (codes "||")
  capital_or : InvalidOr (codes "OR")

-- the same for `and`
pub data InvalidAnd : List ℕ → Type 0 where
  ampersands : InvalidAnd (codes "&&")
  capital_and : InvalidAnd (codes "AND")

-- what an operand may stand directly after
pub data Opener : List ℕ → Type 0 where
  parenthesis : Opener (codes "(")
  negation : (op : NotOperator) → Opener (not_text op)
  joiner : (op : Joiner) → Opener (join_text op)
  or : (op : OrOperator) → Opener (or_text op)
  invalid_and : {w : List ℕ} → InvalidAnd w → Opener w
  invalid_or : {w : List ℕ} → InvalidOr w → Opener w

-- an operand may stand after this text
pub data BeforeOperand : List ℕ → Type 0 where
  at_start : BeforeOperand []
  behind_opener : {t w : List ℕ} → Opener w → EndsWith t w → BeforeOperand t

-- a predicate's name, a negation or an opening parenthesis stands here
pub data BeginsOperand : List ℕ → Type 0 where
  with_name : {t name : List ℕ} → IsName name → BeginsWith name t → BeginsOperand t
  with_negation : {t : List ℕ} (op : NotOperator) (u : List ℕ) → t ≡ not_text op ++ u → not_ends op u → BeginsOperand t
  with_parenthesis : {t : List ℕ} → BeginsWith (codes "(") t → BeginsOperand t

-- an operator where an operand belongs, and the one that is suggested
pub data Misplaced : List ℕ → List ℕ → Type 0 where
  misplaced_and : Misplaced (codes "and") (codes "and")
  misplaced_or : Misplaced (codes "or") (codes "or")
  misplaced_AND : Misplaced (codes "AND") (codes "and")
  misplaced_OR : Misplaced (codes "OR") (codes "or")
  misplaced_ampersands : Misplaced (codes "&&") (codes "&")
  misplaced_pipes : Misplaced (codes "||") (codes "|")

-- ---- leaves of the tree

-- the span of a leaf, where it has one
abbrev pub leaf_span : Leaf SourceSpan → Option SourceSpan
leaf_span (Matching p m s) = Some s
leaf_span (Platform p s) = Some s
leaf_span (Default s) = Some s
leaf_span tree.All = None
leaf_span tree.None = None

-- the text spells a tree, and a leaf of it has this span and this property
pub record LeafAt (text : List ℕ) (s : SourceSpan) (Is : Leaf SourceSpan → Type 0) : Type 0 where
  pub expr : Tree SourceSpan
  pub spelled : Spells text expr
  pub leaf : Leaf SourceSpan
  pub is_leaf : Contains (tree_leaves expr) leaf
  pub at : leaf_span leaf ≡ Some s
  pub is : Is leaf

-- the leaf takes a matcher, and its predicate has this property
abbrev pub IsOf : (Predicate → Type 0) → Leaf SourceSpan → Type 0
IsOf Is (Matching p m s) = Is p
IsOf Is _ = ⊥

-- ---- faults

-- What is at the span of a fault that a text has. `UnsupportedExpression` and `Unknown` are never made, and stand in no
-- text.
abbrev pub FaultSays : List ℕ → ParseSingleError → Type 0
FaultSays text (ExpectedOpenParenthesis s) =
    IsPoint s × (BehindBlanks (codes "(") (onward text s) → ⊥)
    × ((name : List ℕ) × IsName name × EndsWith (before text s) name)
FaultSays text (ExpectedCloseParenthesis s) = IsPoint s × (BehindBlanks (codes ")") (onward text s) → ⊥)
FaultSays text (ExpectedExpr s) =
    BeforeOperand (before text s) × RunsToEnd text s
    × ((blanks u : List ℕ) → Blanks blanks → onward text s ≡ blanks ++ u → BeginsOperand u → ⊥)
FaultSays text (ExpectedEndOfExpression s) = RunsToEnd text s × (Blanks (onward text s) → ⊥)
FaultSays text (InvalidEscapeCharacter s) =
    (u : List ℕ) × (onward text s ≡ codes "\\" ++ u)
    × ((e rest : List ℕ) (c : ℕ) → Escape e c → u ≢ e ++ rest) × (s.len ≡ min 2 (std.length u))
FaultSays text (InvalidString s) = IsPoint s × EndsText (onward text s)
FaultSays text (UnexpectedComma s) = IsPoint s × BehindBlanks (codes ",") (onward text s)
FaultSays text (UnexpectedArgument s) =
    All (λ b. b ≢ sign ")") (piece text s) × (WhiteSpace (piece text s) → ⊥) × ClosesArgument (behind text s)
FaultSays text (InvalidOrOperator s) = InvalidOr (piece text s)
FaultSays text (InvalidAndOperator s) = InvalidAnd (piece text s)
FaultSays text (ExprFoundBinaryOp s op suggest) = (piece text s ≡ op.now) × Misplaced op.now suggest.now
FaultSays text (ExprFoundUnaryOp s op suggest) =
    (piece text s ≡ op.now) × (op.now ≡ codes "NOT") × (suggest.now ≡ codes "not")
FaultSays text (ExpectedCloseRegex s) = IsPoint s × ClosesArgument (onward text s)
FaultSays text (InvalidRegexWithoutMessage s) =
    ((pattern : List ℕ) × Body (piece text s) pattern × MayBeRejected pattern)
    × EndsWith (before text s) (codes "/") × BeginsWith (codes "/") (behind text s)
FaultSays text (InvalidGlob s error) =
    (value : List ℕ) × Spelled (piece text s) value
    × ((tokens : Tokens) → GlobText (chars value) tokens → ⊥) × glob.FaultStands (chars value) error
FaultSays text (InvalidPlatformArgument s) =
    (value : List ℕ) × Spelled (piece text s) value × ((platform : BuildPlatform) → Names value platform → ⊥)
FaultSays text (BannedPredicate s kind reason) = LeafAt text s (λ l. ban_reason (leaf_without_span l) kind ≡ Some reason)
FaultSays text (NoPackageMatch s) = LeafAt text s (IsOf (λ p. (p ≡ Package) ⊎ ((p ≡ Deps) ⊎ (p ≡ Rdeps))))
FaultSays text (NoGroupMatch s) = LeafAt text s (IsOf (λ p. p ≡ Group))
FaultSays text (NoBinaryIdMatch s) = LeafAt text s (IsOf (λ p. p ≡ BinaryId))
FaultSays text (NoBinaryNameMatch s) = LeafAt text s (IsOf (λ p. p ≡ Binary))
FaultSays text (UnsupportedExpression s) = ⊥
FaultSays text Unknown = ⊥

-- The span ends between two characters, save that of an escape that is none: it is two bytes long, or one at the end.
abbrev pub EndsBetween : List ℕ → ParseSingleError → Type 0
EndsBetween text (InvalidEscapeCharacter s) = Unit {0}
EndsBetween text fault = IfSome (span_of fault) (λ s. IsCharBoundary text (s.offset + s.len))

-- the fault is one of the text
pub record FaultStands (text : List ℕ) (fault : ParseSingleError) : Type 0 where
  pub within : IfSome (span_of fault) (λ s. s.offset + s.len ≤ std.length text)
  pub begins : IfSome (span_of fault) (λ s. IsCharBoundary text s.offset)
  pub ends : EndsBetween text fault
  pub there : FaultSays text fault
