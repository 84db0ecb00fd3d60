-- Operands that change nothing.
use Rattle.std.specs.Prelude.{◌≡◌, ◌==◌, ◌&&◌, Bool, true, false, not, List, [], ◌∷◌, ◌++◌, All, IsTrue, MatchBool, Option, length}
use Rattle.std.specs.{List.list_any, Option.unwrap_or}
use Rattle.filterset_faults.specs.declared.span.SourceSpan.{SourceSpan}
use Rattle.filterset_grammar.specs.Tree as tree
use Rattle.filterset_grammar.specs.Tree.{Tree, Not, Union, Join, Parens, Set}
use Rattle.filterset_grammar.specs.declared.operators.Joiner.{Joiner}
use Rattle.filterset_grammar.specs.declared.operators.Joiner.TheVariants.{Both, Without, ExactlyOne}
use Rattle.filterset_grammar.specs.declared.operators.{NotOperator.NotOperator, OrOperator.OrOperator}
use Rattle.filterset_listing.specs.SubjectValues.{Basis, HasColumn, MaySay}
use Rattle.filterset_listing.specs.{Unmatched.Unmatched, declared.subjects.Subject.Subject}

-- an operator over an operand, with its other operand; or parentheses
pub data Frame : Type 0 where
  Negated : NotOperator → Frame
  UnionLeft : OrOperator → Tree SourceSpan → Frame
  UnionRight : OrOperator → Tree SourceSpan → Frame
  JoinLeft : Joiner → Tree SourceSpan → Frame
  JoinRight : Joiner → Tree SourceSpan → Frame
  Enclosed : Frame

-- the tree in which an operand stands under these, the innermost first
abbrev pub placed : List Frame → Tree SourceSpan → Tree SourceSpan
placed [] e = e
placed (Negated op ∷ frames) e = placed frames (Not op e)
placed (UnionLeft op right ∷ frames) e = placed frames (Union op e right)
placed (UnionRight op left ∷ frames) e = placed frames (Union op left e)
placed (JoinLeft op right ∷ frames) e = placed frames (Join op e right)
placed (JoinRight op left ∷ frames) e = placed frames (Join op left e)
placed (Enclosed ∷ frames) e = placed frames (Parens e)

-- What the operand says of the subject may decide what the whole says, since no other operand surely does: that of a union
-- may be false, that of an intersection true.
abbrev pub MayDecide : Basis → Subject → List Frame → Type 0
MayDecide basis subject [] = Unit {0}
MayDecide basis subject (Negated op ∷ frames) = MayDecide basis subject frames
MayDecide basis subject (UnionLeft op right ∷ frames) = MaySay basis subject right false × MayDecide basis subject frames
MayDecide basis subject (UnionRight op left ∷ frames) = MaySay basis subject left false × MayDecide basis subject frames
MayDecide basis subject (JoinLeft (Both op) right ∷ frames) =
    MaySay basis subject right true × MayDecide basis subject frames
MayDecide basis subject (JoinRight (Both op) left ∷ frames) =
    MaySay basis subject left true × MayDecide basis subject frames
MayDecide basis subject (JoinLeft (Without op) right ∷ frames) =
    MaySay basis subject right false × MayDecide basis subject frames
MayDecide basis subject (JoinRight (Without op) left ∷ frames) =
    MaySay basis subject left true × MayDecide basis subject frames
MayDecide basis subject (JoinLeft (ExactlyOne op) right ∷ frames) = MayDecide basis subject frames
MayDecide basis subject (JoinRight (ExactlyOne op) left ∷ frames) = MayDecide basis subject frames
MayDecide basis subject (Enclosed ∷ frames) = MayDecide basis subject frames

-- `all()` or `none()`
abbrev pub constant : Bool → Tree SourceSpan
constant true = Set tree.All
constant false = Set tree.None

-- the constant in place of the operand changes nothing of what is said of the subject
abbrev pub ChangesNothing : Basis → Subject → List Frame → Tree SourceSpan → Bool → Type 0
ChangesNothing basis subject frames e value = MayDecide basis subject frames → ¬ MaySay basis subject e (not value)

-- the same of each subject
abbrev pub IsNeedless : Basis → List Subject → List Frame → Tree SourceSpan → Bool → Type 0
IsNeedless basis subjects frames e value = All (λ subject. ChangesNothing basis subject frames e value) subjects

-- an operand in whose place a constant changes nothing, with the constant
abbrev pub Found : Type 0
Found = Tree SourceSpan × Bool

-- What is found of an operand: the operand with `none()`, or else with `all()`, if that changes nothing in its place. If
-- neither does, or if the tree is no operand, what is found within it.
pub data IsFound (basis : Basis) (subjects : List Subject) (is_operand : Bool) (frames : List Frame) (e : Tree SourceSpan)
    (found : List Found) (Within : Type 0) : Type 0 where
  by_none : IsTrue is_operand → IsNeedless basis subjects frames e false → found ≡ (e, false) ∷ []
      → IsFound basis subjects is_operand frames e found Within
  by_all : IsTrue is_operand → ¬ IsNeedless basis subjects frames e false → IsNeedless basis subjects frames e true
      → found ≡ (e, true) ∷ [] → IsFound basis subjects is_operand frames e found Within
  within : (IsTrue is_operand
      → (¬ IsNeedless basis subjects frames e false) × (¬ IsNeedless basis subjects frames e true)) → Within
      → IsFound basis subjects is_operand frames e found Within

-- The operands of a tree in whose place a constant changes nothing, from left to right. Of such an operand no part is
-- found. Parentheses are no operand; what they enclose is.
abbrev pub AreFound : Basis → List Subject → Bool → List Frame → Tree SourceSpan → List Found → Type 0
AreFound basis subjects is_operand frames (Not op e) found =
    IsFound basis subjects is_operand frames (Not op e) found (AreFound basis subjects true (Negated op ∷ frames) e found)
AreFound basis subjects is_operand frames (Union op l r) found =
    IsFound basis subjects is_operand frames (Union op l r) found ((left : List Found) × (right : List Found)
    × (found ≡ left ++ right) × AreFound basis subjects true (UnionLeft op r ∷ frames) l left
    × AreFound basis subjects true (UnionRight op l ∷ frames) r right)
AreFound basis subjects is_operand frames (Join op l r) found =
    IsFound basis subjects is_operand frames (Join op l r) found ((left : List Found) × (right : List Found)
    × (found ≡ left ++ right) × AreFound basis subjects true (JoinLeft op r ∷ frames) l left
    × AreFound basis subjects true (JoinRight op l ∷ frames) r right)
AreFound basis subjects is_operand frames (Parens e) found = AreFound basis subjects is_operand (Enclosed ∷ frames) e found
AreFound basis subjects is_operand frames (Set leaf) found =
    IsFound basis subjects is_operand frames (Set leaf) found (found ≡ [])

-- each predicate matches a test, and so does the filterset, which has these values
abbrev pub picks_by_all : List Unmatched → List (Option Bool) → Bool
picks_by_all unmatched values = length unmatched == 0 && list_any (λ v. unwrap_or v false) values

-- The needless operands of a filterset. If one of its predicates matches no test, or if it picks no test, there are none.
abbrev pub AreNeedless : Basis → List Subject → Tree SourceSpan → List Unmatched → List Found → Type 0
AreNeedless basis subjects e unmatched needless = (values : List (Option Bool)) × HasColumn basis subjects e values
    × MatchBool (picks_by_all unmatched values) (AreFound basis subjects false [] e needless) (needless ≡ [])
