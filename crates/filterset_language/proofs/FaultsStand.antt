-- What stands at a position of a text.
use Rattle.std.proofs.Common.{◌≡◌, ◌≢◌, ℕ, ◌+◌, ◌-◌, ◌≤◌, true, false, List, ◌∷◌, ◌++◌, length, take, drop, Option, Some, None, refl, sym, ap, ◌∙◌, subst, arith, length-take, IsCharBoundary}
use Rattle.std.proofs.Math.Seq.{take-append-add}
use Rattle.std.proofs.lemmas.{List.take-append-drop, List.take_at, Str.IsCharBoundary-from_rest}
use Rattle.std.specs.{Borrow.Bor, Option.option_map, Prelude.codes, Prelude.All}
use Rattle.filterset_grammar.specs.Grammar.{Name, not_text, join_text, or_text, not_ends}
use Rattle.filterset_grammar.specs.Text.{Blanks, WhiteSpace}
use Rattle.filterset_grammar.specs.declared.operators.{Joiner.Joiner, NotOperator.NotOperator}
use Rattle.filterset_grammar.specs.declared.operators.NotOperator.TheVariants.{LiteralNot, Exclamation}
use Rattle.filterset_grammar.specs.declared.{operators.OrOperator.OrOperator, predicate.Predicate.Predicate}
use Rattle.filterset_language.specs.Parsing.Front.{blank_len, close_len, is_white}
use Rattle.filterset_language.specs.Parsing.Position.{Position, position, position_of, skip, skip_from, after, after_word, IsBehind}
use Rattle.filterset_language.specs.Parsing.Words.{choose, with, not_at, name_at, joiner_at, or_at, name_text}
use Rattle.filterset_language.specs.Faults.{ClosesArgument, InvalidAnd, InvalidOr, Misplaced, misplaced_and, misplaced_or, misplaced_AND, misplaced_OR, misplaced_ampersands, misplaced_pipes, EndsWith, BehindBlanks, BeginsOperand, with_name, with_negation, with_parenthesis, IsName, Opener, parenthesis, invalid_and, invalid_or, BeforeOperand, at_start, behind_opener, FaultStands}
use Rattle.filterset_language.specs.Parsing.Recovery.{Found, AtOperand, AtName, behind_misplaced, IsMisplaced}
use Rattle.filterset_language.specs.declared.parsing.{input.Input.Input, names.PredicateName.PredicateName}
use Rattle.filterset_language.proofs.{Positions.behind_same, Positions.skip_again, SpelledIsRead.not_stop}
use Rattle.filterset_language.proofs.SpelledLeavesAreRead.{close_stop, name_stop, open_stop}
use Rattle.filterset_language.proofs.StepsTakeText.{Takes, word_after, word_takes, after_takes, skip_takes, JoinerTaken, joiner_takes, OrTaken, or_takes, not_takes, name_takes}
use Rattle.filterset_language.proofs.RawTextFaults.{size, piece_is, point_found, piece_found, rest_found}
use Rattle.filterset_language.proofs.ClosingParenthesis.{close_within, close_behind, close_none}
use Rattle.filterset_language.proofs.WhiteSpaceTest.{white_to}
use Rattle.filterset_language.specs.Faults as faults
use Rattle.filterset_faults.specs.Span.{span}
use Rattle.filterset_faults.specs.declared.error.ParseSingleError.TheVariants.{ExpectedOpenParenthesis, ExpectedCloseParenthesis, ExpectedExpr, UnexpectedComma, UnexpectedArgument, InvalidAndOperator, InvalidOrOperator, ExprFoundBinaryOp, ExprFoundUnaryOp}
use Rattle.filterset_grammar.specs.declared.predicate.Predicate.TheVariants as matching
use Rattle.filterset_language.specs.declared.parsing.names.PredicateName.TheVariants as names

-- a text is what is before a position and what is left there
pub whole : (i : Input) → i.text.now ≡ take i.offset i.text.now ++ i.rest.now
whole i = sym (take-append-drop i.offset i.text.now) ∙ ap (λ (t : List ℕ). take i.offset i.text.now ++ t) i.seam.onward

pub before_length : (i : Input) → length (take i.offset i.text.now) ≡ i.offset
before_length i = let w = i.seam.within in omega (arith, length-take i.offset i.text.now)

-- what ends at the second position
pub ends_with : (a b : Input) (w : List ℕ) → b.text.now ≡ a.text.now → Takes (position_of a) w (position_of b) → EndsWith (take b.offset b.text.now) w
ends_with a b w same takes =
    let front = take a.offset a.text.now in
    let text : b.text.now ≡ front ++ (w ++ b.rest.now) = same ∙ whole a ∙ ap (λ (t : List ℕ). front ++ t) takes.parts in
    let at : b.offset ≡ length front + length w = omega (arith, takes.offset, before_length a) in
    let cut : take (length front + length w) (front ++ (w ++ b.rest.now)) ≡ front ++ w = take-append-add front (w ++ b.rest.now) (length w) ∙ ap (λ (t : List ℕ). front ++ t) (take_at w b.rest.now (length w) refl) in
    record { front = front; parts = ap (λ (n : ℕ). take n b.text.now) at ∙ ap (take (length front + length w)) text ∙ cut }

-- ---- words that do not stand

pub no_word : (word : List ℕ) (p : Position) → ((u : List ℕ) → blank_len (word ++ u) ≡ 0) → None ≡ after word (skip p) → BehindBlanks word p.rest → ⊥
no_word word p stop none b =
    let blanks = b.blanks in
    let u = b.rest in
    let skipped : skip p ≡ position (p.at + length blanks) (word ++ u) = ap (skip_from p.at) b.parts ∙ skip_again b.are p.at (word ++ u) (stop u) in
    let some : after word (skip p) ≡ Some (position (p.at + length blanks + length word) u) = ap (after word) skipped ∙ ap (option_map (λ (t : List ℕ). position (p.at + length blanks + length word) t)) (behind_same word u) in
    let no : None ≡ Some (position (p.at + length blanks + length word) u) = none ∙ some in
    cc

name_first : {name : List ℕ} → IsName name → (u : List ℕ) → blank_len (name ++ u) ≡ 0
name_first (faults.matching p) u = name_stop p u
name_first faults.platform u = refl
name_first faults.default u = refl
name_first faults.all u = refl
name_first faults.none u = refl

-- `binary` stands there whether or not `binary_id` does
binary_stands : (at : ℕ) (u : List ℕ) → None ≡ name_at (position at (codes "binary" ++ u)) → ⊥
binary_stands at u e = one_of (after (codes "binary_id") (position at (codes "binary" ++ u))) e
  where
    one_of : (o : Option Position) → None ≡ choose o (with (names.Matching matching.BinaryId)) (Some (names.Matching matching.Binary, position (at + 6) u)) → ⊥
    one_of None e = cc
    one_of (Some q) e = cc

matching_stands : (p : Predicate) (at : ℕ) (u : List ℕ) → None ≡ name_at (position at (Name p ++ u)) → ⊥
matching_stands matching.Package at u e = cc
matching_stands matching.Deps at u e = cc
matching_stands matching.Rdeps at u e = cc
matching_stands matching.Kind at u e = cc
matching_stands matching.Binary at u e = binary_stands at u e
matching_stands matching.BinaryId at u e = cc
matching_stands matching.Test at u e = cc
matching_stands matching.Group at u e = cc

name_stands : {name : List ℕ} → IsName name → (at : ℕ) (u : List ℕ) → None ≡ name_at (position at (name ++ u)) → ⊥
name_stands (faults.matching p) at u e = matching_stands p at u e
name_stands faults.platform at u e = cc
name_stands faults.default at u e = cc
name_stands faults.all at u e = cc
name_stands faults.none at u e = cc

not_stands : (op : NotOperator) (at : ℕ) (u : List ℕ) → not_ends op u → None ≡ not_at (position at (not_text op ++ u)) → ⊥
not_stands LiteralNot at u ends e = let f : None ≡ Some (LiteralNot, position (at + 3) u) = e ∙ rw ends refl in cc
not_stands Exclamation at u ends e = cc

-- no operand begins after the blanks
pub no_operand : (p s : Position) → s ≡ skip p → None ≡ name_at s → None ≡ not_at s → None ≡ after (codes "(") s → (blanks u : List ℕ) → Blanks blanks → p.rest ≡ blanks ++ u → BeginsOperand u → ⊥
no_operand p s skipped no_name no_not no_open blanks u are is (with_name {t} {name} n begins) =
    let v = begins.rest in
    let at : s ≡ position (p.at + length blanks) (name ++ v) = skipped ∙ ap (skip_from p.at) (is ∙ ap (λ (t : List ℕ). blanks ++ t) begins.parts) ∙ skip_again are p.at (name ++ v) (name_first n v) in
    name_stands n _ v (no_name ∙ ap name_at at)
no_operand p s skipped no_name no_not no_open blanks u are is (with_negation {t} op v e ends) =
    let at : s ≡ position (p.at + length blanks) (not_text op ++ v) = skipped ∙ ap (skip_from p.at) (is ∙ ap (λ (t : List ℕ). blanks ++ t) e) ∙ skip_again are p.at (not_text op ++ v) (not_stop op v) in
    not_stands op _ v ends (no_not ∙ ap not_at at)
no_operand p s skipped no_name no_not no_open blanks u are is (with_parenthesis {t} begins) =
    let v = begins.rest in
    let at : s ≡ position (p.at + length blanks) (40 ∷ v) = skipped ∙ ap (skip_from p.at) (is ∙ ap (λ (t : List ℕ). blanks ++ t) begins.parts) ∙ skip_again are p.at (40 ∷ v) (open_stop v) in
    let f : None ≡ Some (position (p.at + length blanks + 1) v) = no_open ∙ ap (after (codes "(")) at in
    cc

-- ---- faults

is_name : (n : PredicateName) → IsName (name_text n)
is_name (names.Matching n) = faults.matching n
is_name names.Platform = faults.platform
is_name names.Default = faults.default
is_name names.All = faults.all
is_name names.None = faults.none

pub open_found : (i : Input) (s : Position) (n : PredicateName) → AtName n i → s ≡ skip (position_of i) → None ≡ after (codes "(") s → Found i.text.now (ExpectedOpenParenthesis (span i.offset 0))
open_found i s n name skipped none =
    point_found i (ExpectedOpenParenthesis (span i.offset 0)) refl refl (λ h. h)
    (refl, (λ behind. no_word (codes "(") (position_of i) open_stop (none ∙ ap (after (codes "(")) skipped) (subst (BehindBlanks (codes "(")) i.seam.onward behind)), (name_text n, is_name n, name))

pub close_found : (i : Input) (s : Position) → s ≡ skip (position_of i) → None ≡ after (codes ")") s → Found i.text.now (ExpectedCloseParenthesis (span i.offset 0))
close_found i s skipped none =
    point_found i (ExpectedCloseParenthesis (span i.offset 0)) refl refl (λ h. h)
    (refl, λ behind. no_word (codes ")") (position_of i) close_stop (none ∙ ap (after (codes ")")) skipped) (subst (BehindBlanks (codes ")")) i.seam.onward behind))

pub expr_found : (i : Input) (s : Position) → AtOperand i → s ≡ skip (position_of i) → None ≡ name_at s → None ≡ not_at s → None ≡ after (codes "(") s → Found i.text.now (ExpectedExpr (span i.offset (length i.rest.now)))
expr_found i s at skipped no_name no_not no_open =
    rest_found i (ExpectedExpr (span i.offset (length i.rest.now))) refl refl (λ h. h)
    (at.before, size i, λ blanks u are is begins. no_operand (position_of i) s skipped no_name no_not no_open blanks u are (sym i.seam.onward ∙ is) begins)

pub comma_found : (i b : Input) (s : Position) → s ≡ skip (position_of i) → Some (position_of b) ≡ after (codes ",") s → Found i.text.now (UnexpectedComma (span i.offset 0))
comma_found i b s skipped stands =
    let k = skip_takes i.rest.now i.offset in
    let t = after_takes (codes ",") (skip (position_of i)) (position_of b) (sym (stands ∙ ap (after (codes ",")) skipped)) in
    point_found i (UnexpectedComma (span i.offset 0)) refl refl (λ h. h)
    (refl, record { blanks = k.blanks; are = k.are; rest = b.rest.now; parts = i.seam.onward ∙ k.takes.parts ∙ ap (λ (x : List ℕ). k.blanks ++ x) t.parts })

pub argument_found : (i e : Input) → position_of e ≡ position (i.offset + close_len i.rest.now) (drop (close_len i.rest.now) i.rest.now) → is_white (take (close_len i.rest.now) i.rest.now) ≡ false
    → Found i.text.now (UnexpectedArgument (span i.offset (e.offset - i.offset)))
argument_found i e is black =
    let t = i.rest.now in
    let at : e.offset ≡ i.offset + close_len t = ap (λ (p : Position). p.at) is in
    let n : e.offset - i.offset ≡ close_len t = omega arith in
    let whole : t ≡ take (close_len t) t ++ e.rest.now = sym (take-append-drop (close_len t) t) ∙ ap (λ (p : Position). take (close_len t) t ++ p.rest) (sym is) in
    let takes : Takes (position_of i) (take (close_len t) t) (position_of e) = record { parts = whole; offset = omega (arith, length-take (close_len t) t, close_within t) } in
    let rest : drop (e.offset - i.offset) (drop i.offset i.text.now) ≡ drop (close_len t) t = ap (λ (k : ℕ). drop k (drop i.offset i.text.now)) n ∙ ap (drop (close_len t)) i.seam.onward in
    let piece = sym (piece_is i e _ takes) in
    piece_found i e (take (close_len t) t) (UnexpectedArgument (span i.offset (e.offset - i.offset))) refl refl takes (λ h. h)
    (subst (All (λ (b : ℕ). b ≢ 41)) piece (close_none t), (λ white. let f : true ≡ false = sym (white_to _ (subst WhiteSpace (sym piece) white)) ∙ black in cc), subst ClosesArgument (sym rest) (close_behind t))

-- an operator that stands where an operand should stands there
misplaced_stands : (p : Position) (op suggest : List ℕ) (q : Position) → IsMisplaced p op suggest q → after op p ≡ Some q
misplaced_stands p op suggest q is = from is.suggested is.stands
  where
    from : {op suggest : List ℕ} (m : Misplaced op suggest) → behind_misplaced m p ≡ Some q → after op p ≡ Some q
    from misplaced_and e = word_after (codes "and") p q e
    from misplaced_or e = word_after (codes "or") p q e
    from misplaced_AND e = word_after (codes "AND") p q e
    from misplaced_OR e = word_after (codes "OR") p q e
    from misplaced_ampersands e = e
    from misplaced_pipes e = e

-- and none does where none of the words and signs stands
pub none_misplaced : (p : Position) → None ≡ after_word (codes "and") p → None ≡ after_word (codes "or") p → None ≡ after_word (codes "AND") p
    → None ≡ after_word (codes "OR") p → None ≡ after (codes "&&") p → None ≡ after (codes "||") p → (op suggest : List ℕ) (q : Position) → IsMisplaced p op suggest q → ⊥
none_misplaced p no_and no_or no_AND no_OR no_ampersands no_pipes op suggest q is = from is.suggested is.stands
  where
    from : {op suggest : List ℕ} (m : Misplaced op suggest) → behind_misplaced m p ≡ Some q → ⊥
    from misplaced_and e = absurd cc
    from misplaced_or e = absurd cc
    from misplaced_AND e = absurd cc
    from misplaced_OR e = absurd cc
    from misplaced_ampersands e = absurd cc
    from misplaced_pipes e = absurd cc

pub binary_found : (i s r : Input) (op suggest : Bor (List ℕ)) → s.text.now ≡ i.text.now → IsMisplaced (position_of s) op.now suggest.now (position_of r) → Found i.text.now (ExprFoundBinaryOp (span s.offset (r.offset - s.offset)) op suggest)
binary_found i s r op suggest same is =
    let takes = after_takes op.now (position_of s) (position_of r) (misplaced_stands (position_of s) op.now suggest.now (position_of r) is) in
    let fault = ExprFoundBinaryOp (span s.offset (r.offset - s.offset)) op suggest in
    subst (λ (t : List ℕ). Found t fault) same (piece_found s r op.now fault refl refl takes (λ h. h) (piece_is s r op.now takes, is.suggested))

pub unary_found : (i s r : Input) (op suggest : Bor (List ℕ)) → s.text.now ≡ i.text.now → Some (position_of r) ≡ after_word op.now (position_of s) → op.now ≡ codes "NOT"
    → suggest.now ≡ codes "not" → Found i.text.now (ExprFoundUnaryOp (span s.offset (r.offset - s.offset)) op suggest)
unary_found i s r op suggest same is not suggested =
    let takes = (word_takes op.now (position_of s) (position_of r) (sym is)).0 in
    let fault = ExprFoundUnaryOp (span s.offset (r.offset - s.offset)) op suggest in
    subst (λ (t : List ℕ). Found t fault) same (piece_found s r op.now fault refl refl takes (λ h. h) (piece_is s r op.now takes, not, suggested))

pub and_found : (s r : Input) → Some (None, position_of r) ≡ joiner_at (position_of s) → Found s.text.now (InvalidAndOperator (span s.offset (r.offset - s.offset)))
unfolding JoinerTaken
and_found s r stands =
    let j = joiner_takes (position_of s) (None, position_of r) (sym stands) in
    piece_found s r j.0 (InvalidAndOperator (span s.offset (r.offset - s.offset))) refl refl j.2 (λ h. h) (subst InvalidAnd (sym (piece_is s r j.0 j.2)) j.1)

pub or_found : (s r : Input) → Some (None, position_of r) ≡ or_at (position_of s) → Found s.text.now (InvalidOrOperator (span s.offset (r.offset - s.offset)))
unfolding OrTaken
or_found s r stands =
    let j = or_takes (position_of s) (None, position_of r) (sym stands) in
    piece_found s r j.0 (InvalidOrOperator (span s.offset (r.offset - s.offset))) refl refl j.2 (λ h. h) (subst InvalidOr (sym (piece_is s r j.0 j.2)) j.1)

-- ---- where an operand may stand

pub behind_not : (s r : Input) (op : NotOperator) → Some (op, position_of r) ≡ not_at (position_of s) → r.text.now ≡ s.text.now → AtOperand r
behind_not s r op stands same = record { before = behind_opener (faults.negation op) (ends_with s r (not_text op) same (not_takes (position_of s) (op, position_of r) (sym stands)).0) }

pub behind_open : (s r : Input) → Some (position_of r) ≡ after (codes "(") (position_of s) → r.text.now ≡ s.text.now → AtOperand r
behind_open s r stands same = record { before = behind_opener parenthesis (ends_with s r (codes "(") same (after_takes (codes "(") (position_of s) (position_of r) (sym stands))) }

pub behind_joiner : (s r : Input) (op : Option Joiner) → Some (op, position_of r) ≡ joiner_at (position_of s) → r.text.now ≡ s.text.now → AtOperand r
unfolding JoinerTaken
behind_joiner s r (Some op) stands same = record { before = behind_opener (faults.joiner op) (ends_with s r (join_text op) same (joiner_takes (position_of s) (Some op, position_of r) (sym stands)).0) }
behind_joiner s r None stands same =
    let j = joiner_takes (position_of s) (None, position_of r) (sym stands) in
    record { before = behind_opener (invalid_and j.1) (ends_with s r j.0 same j.2) }

pub behind_or : (s r : Input) (op : Option OrOperator) → Some (op, position_of r) ≡ or_at (position_of s) → r.text.now ≡ s.text.now → AtOperand r
unfolding OrTaken
behind_or s r (Some op) stands same = record { before = behind_opener (faults.or op) (ends_with s r (or_text op) same (or_takes (position_of s) (Some op, position_of r) (sym stands)).0) }
behind_or s r None stands same =
    let j = or_takes (position_of s) (None, position_of r) (sym stands) in
    record { before = behind_opener (invalid_or j.1) (ends_with s r j.0 same j.2) }

pub behind_name : (s r : Input) (n : PredicateName) → Some (n, position_of r) ≡ name_at (position_of s) → r.text.now ≡ s.text.now → AtName n r
behind_name s r n stands same = ends_with s r (name_text n) same (name_takes (position_of s) (n, position_of r) (sym stands))

pub at_text_start : (r : Input) (t : List ℕ) → position_of r ≡ position 0 t → AtOperand r
at_text_start r t e = let z : r.offset ≡ 0 = ap (λ (p : Position). p.at) e in record { before = subst (λ (n : ℕ). BeforeOperand (take n r.text.now)) (sym z) at_start }
