-- What is spelled is read.
use Rattle.std.proofs.Common.{◌≡◌, ℕ, suc, ◌+◌, ◌<◌, ◌≤◌, true, List, [], ◌∷◌, ◌++◌, length, Option, Some, None, refl, sym, ap, ◌∙◌, subst, arith, append_assoc, length-append}
use Rattle.std.specs.Prelude.{codes}
use Rattle.std.proofs.lemmas.List.{append-nil}
use Rattle.filterset_faults.specs.declared.span.SourceSpan.{SourceSpan}
use Rattle.filterset_grammar.specs.Text.{Blanks, no_blank, space, newline, return_newline, ends_word}
use Rattle.filterset_grammar.specs.{Tree.Leaf, Tree.Union, Tree.Join, Tree.Set, declared.operators.Joiner.Joiner}
use Rattle.filterset_grammar.specs.declared.operators.Joiner.TheVariants.{Both, Without, ExactlyOne}
use Rattle.filterset_grammar.specs.declared.predicate.Predicate.{Predicate}
use Rattle.filterset_grammar.specs.Grammar.{Name, LeafText, not_text, or_text, join_text, not_ends, or_ends, join_ends, Basic, AndLevel, OrLevel, Spells}
use Rattle.filterset_grammar.specs.declared.operators.NotOperator.{NotOperator}
use Rattle.filterset_grammar.specs.declared.operators.NotOperator.TheVariants.{LiteralNot, Exclamation}
use Rattle.filterset_grammar.specs.declared.operators.OrOperator.{OrOperator}
use Rattle.filterset_grammar.specs.declared.operators.OrOperator.TheVariants.{LiteralOr, Pipe, Plus}
use Rattle.filterset_grammar.specs.declared.operators.AndOperator.TheVariants.{LiteralAnd, Ampersand}
use Rattle.filterset_grammar.specs.declared.operators.DifferenceOperator.TheVariants.{Minus}
use Rattle.filterset_grammar.specs.declared.operators.SymmetricDifferenceOperator.TheVariants.{Caret}
use Rattle.filterset_language.specs.Parsing.Front.{blank_len}
use Rattle.filterset_language.specs.Parsing.Position.{Position, position, skip, skip_from, behind}
use Rattle.filterset_language.specs.Parsing.Words.{choose, not_at, joiner_at, or_at, name_at}
use Rattle.filterset_language.specs.Parsing.Descent.{Placed, ◌>>=◌, Reader, Next, Make, leaf_at, set_at, join, unite, more, level_by, and_level_by, or_level_by, operand_by, operand_at, whole_by}
use Rattle.filterset_language.specs.declared.parsing.names.PredicateName.{PredicateName}
use Rattle.filterset_language.proofs.{Positions.skip_again, StepsTakeText.is_some}
use Rattle.filterset_language.proofs.ReadingSteps.{less, loop_turns, more_ends}
use Rattle.filterset_language.proofs.SpelledLeavesAreRead.{byte_stop, open_stop, close_stop, close_again, call_text, leaf_again}
use Rattle.filterset_language.proofs.SpelledIsNotEmpty.{not_some, basic_some, and_some}
use Rattle.filterset_grammar.specs.declared.predicate.Predicate.TheVariants as predicates
use Rattle.filterset_grammar.specs.Grammar as grammar

-- ---- operators

ends_more : (own u : List ℕ) → 0 < length own → ends_word own ≡ true → ends_word (own ++ u) ≡ true
ends_more [] u lt h = absurd (omega arith)
ends_more (b ∷ own) u lt h = h

pub not_stop : (op : NotOperator) (u : List ℕ) → blank_len (not_text op ++ u) ≡ 0
not_stop LiteralNot u = refl
not_stop Exclamation u = byte_stop 33 u refl refl

not_name : (op : NotOperator) (at : ℕ) (u : List ℕ) → name_at (position at (not_text op ++ u)) ≡ None
not_name LiteralNot at u = refl
not_name Exclamation at u = refl

not_again : (op : NotOperator) (at : ℕ) (own u : List ℕ) → 0 < length own → not_ends op own → not_at (position at (not_text op ++ (own ++ u))) ≡ Some (op, position (at + length (not_text op)) (own ++ u))
not_again LiteralNot at own u lt ends = let e = ends_more own u lt ends in rw e refl
not_again Exclamation at own u lt ends = refl

join_stop : (op : Joiner) (u : List ℕ) → blank_len (join_text op ++ u) ≡ 0
join_stop (Both LiteralAnd) u = refl
join_stop (Both Ampersand) u = byte_stop 38 u refl refl
join_stop (Without Minus) u = byte_stop 45 u refl refl
join_stop (ExactlyOne Caret) u = byte_stop 94 u refl refl

join_again : (op : Joiner) (at : ℕ) (own u : List ℕ) → 0 < length own → behind (codes "&") (own ++ u) ≡ None → join_ends op own → joiner_at (position at (join_text op ++ (own ++ u))) ≡ Some (Some op, position (at + length (join_text op)) (own ++ u))
join_again (Both LiteralAnd) at own u lt no_amp ends = let e = ends_more own u lt ends in rw e refl
join_again (Both Ampersand) at own u lt no_amp ends = rw no_amp refl
join_again (Without Minus) at own u lt no_amp ends = refl
join_again (ExactlyOne Caret) at own u lt no_amp ends = refl

or_stop : (op : OrOperator) (u : List ℕ) → blank_len (or_text op ++ u) ≡ 0
or_stop LiteralOr u = refl
or_stop Pipe u = byte_stop 124 u refl refl
or_stop Plus u = byte_stop 43 u refl refl

or_again : (op : OrOperator) (at : ℕ) (own u : List ℕ) → 0 < length own → behind (codes "|") (own ++ u) ≡ None → or_ends op own → or_at (position at (or_text op ++ (own ++ u))) ≡ Some (Some op, position (at + length (or_text op)) (own ++ u))
or_again LiteralOr at own u lt no_pipe ends = let e = ends_more own u lt ends in rw e refl
or_again Pipe at own u lt no_pipe ends = rw no_pipe refl
or_again Plus at own u lt no_pipe ends = refl

-- ---- what begins an operand

-- the text begins with no `&` and with no `|`, of which two are an invalid operator
abbrev NoSign : List ℕ → Type 0
NoSign t = (behind (codes "&") t ≡ None) × (behind (codes "|") t ≡ None)

name_no_sign : (p : Predicate) (v : List ℕ) → NoSign (Name p ++ v)
name_no_sign predicates.Package v = (refl, refl)
name_no_sign predicates.Deps v = (refl, refl)
name_no_sign predicates.Rdeps v = (refl, refl)
name_no_sign predicates.Kind v = (refl, refl)
name_no_sign predicates.Binary v = (refl, refl)
name_no_sign predicates.BinaryId v = (refl, refl)
name_no_sign predicates.Test v = (refl, refl)
name_no_sign predicates.Group v = (refl, refl)

not_no_sign : (op : NotOperator) (v : List ℕ) → NoSign (not_text op ++ v)
not_no_sign LiteralNot v = (refl, refl)
not_no_sign Exclamation v = (refl, refl)

blanks_no_sign : {b : List ℕ} → Blanks b → (v : List ℕ) → NoSign v → NoSign (b ++ v)
blanks_no_sign no_blank v h = h
blanks_no_sign (space r) v h = (refl, refl)
blanks_no_sign (newline r) v h = (refl, refl)
blanks_no_sign (return_newline r) v h = (refl, refl)

leaf_no_sign : {t : List ℕ} {at : ℕ} {l : Leaf SourceSpan} → LeafText t at l → (u : List ℕ) → NoSign (t ++ u)
leaf_no_sign (grammar.matching {p} inside before raw last call blanks text last_blanks s_is) u = subst NoSign (sym (call_text u call)) (name_no_sign p _)
leaf_no_sign (grammar.platform inside raw value call spelled names s_is) u = subst NoSign (sym (call_text u call)) (refl, refl)
leaf_no_sign (grammar.default inside white call w s_is) u = subst NoSign (sym (call_text u call)) (refl, refl)
leaf_no_sign (grammar.all inside white call w) u = subst NoSign (sym (call_text u call)) (refl, refl)
leaf_no_sign (grammar.none inside white call w) u = subst NoSign (sym (call_text u call)) (refl, refl)

basic_no_sign : {t : List ℕ} {at : ℕ} {e : Placed} → Basic t at e → (u : List ℕ) → NoSign (t ++ u)
basic_no_sign (grammar.leaf {t} blanks own b text is) u =
    let whole : t ++ u ≡ blanks ++ (own ++ u) = ap (λ (x : List ℕ). x ++ u) is ∙ append_assoc blanks own u in
    subst NoSign (sym whole) (blanks_no_sign b (own ++ u) (leaf_no_sign text u))
basic_no_sign (grammar.negation {t} {at} {op} blanks own b ends inner is) u =
    let whole : t ++ u ≡ blanks ++ (not_text op ++ (own ++ u)) = ap (λ (x : List ℕ). x ++ u) is ∙ simp append_assoc in
    subst NoSign (sym whole) (blanks_no_sign b (not_text op ++ (own ++ u)) (not_no_sign op (own ++ u)))
basic_no_sign (grammar.parens {t} blanks own last b inner c is) u =
    let whole : t ++ u ≡ blanks ++ (40 ∷ (own ++ (last ++ 41 ∷ u))) = ap (λ (x : List ℕ). x ++ u) is ∙ simp append_assoc in
    subst NoSign (sym whole) (blanks_no_sign b (40 ∷ (own ++ (last ++ 41 ∷ u))) (refl, refl))

and_no_sign : {t : List ℕ} {at : ℕ} {e : Placed} → AndLevel t at e → (u : List ℕ) → NoSign (t ++ u)
and_no_sign (grammar.one first) u = basic_no_sign first u
and_no_sign (grammar.join {t} {at} {op} left blanks right first b ends second is) u =
    let whole : t ++ u ≡ left ++ (blanks ++ (join_text op ++ (right ++ u))) = ap (λ (x : List ℕ). x ++ u) is ∙ simp append_assoc in
    subst NoSign (sym whole) (and_no_sign first (blanks ++ (join_text op ++ (right ++ u))))

-- ---- levels

-- what is read from the first operand of a level on is what is read after the operands so far
pub record LevelRead {O : Type 0} (next : Next O) (make : Make O) (read : Reader) (at : ℕ) (t : List ℕ) (e : Placed) (u : List ℕ) : Type 0 where
  pub m : ℕ
  pub long : length u ≤ m
  pub same : level_by next make read (position at (t ++ u)) ≡ more next make read m e (position (at + length t) u)

-- a level of one operand so far
one_read : {O : Type 0} (next : Next O) (make : Make O) (read : Reader) (at : ℕ) (t : List ℕ) (e : Placed) (u : List ℕ)
    → read (position at (t ++ u)) ≡ Some (e, position (at + length t) u) → LevelRead next make read at t e u
one_read next make read at t e u h = record { m = length u; long = omega arith; same = rw h refl }

-- a level before what is none of its operators
level_ends : {O : Type 0} (next : Next O) (make : Make O) (read : Reader) (at : ℕ) (t : List ℕ) (e : Placed) (u : List ℕ)
    → LevelRead next make read at t e u → next (skip (position (at + length t) u)) ≡ None → level_by next make read (position at (t ++ u)) ≡ Some (e, position (at + length t) u)
level_ends next make read at t e u so_far none = so_far.same ∙ more_ends next make read so_far.m e (position (at + length t) u) none

-- an operator and its right operand after a level so far
level_grows : {O : Type 0} (next : Next O) (make : Make O) (read : Reader) (op : O) (at : ℕ) (left blanks own right : List ℕ) (l r : Placed) (u : List ℕ)
    → Blanks blanks → ((v : List ℕ) → blank_len (own ++ v) ≡ 0) → 0 < length right
    → next (position (at + length left + length blanks) (own ++ (right ++ u))) ≡ Some (Some op, position (at + length left + length blanks + length own) (right ++ u))
    → read (position (at + length left + length blanks + length own) (right ++ u)) ≡ Some (r, position (at + length left + length blanks + length own + length right) u)
    → LevelRead next make read at left l (blanks ++ (own ++ (right ++ u))) → LevelRead next make read at (left ++ (blanks ++ (own ++ right))) (make op l r) u
level_grows next make read op at left blanks own right l r u are stop some stands second so_far =
    let behind = blanks ++ (own ++ (right ++ u)) in
    let a = at + length left in
    let b = a + length blanks + length own in
    let whole : (left ++ (blanks ++ (own ++ right))) ++ u ≡ left ++ behind = simp append_assoc in
    let shorter : length u < length behind = omega (arith, length-append blanks (own ++ (right ++ u)), length-append own (right ++ u), length-append right u) in
    let skipped = skip_again are a (own ++ (right ++ u)) (stop (right ++ u)) in
    let turn = loop_turns next make read so_far.m l r op (position a behind) (position (a + length blanks) (own ++ (right ++ u))) (position b (right ++ u)) (position (b + length right) u) (level_by next make read (position at (left ++ behind))) shorter so_far.long (sym skipped) (sym stands) second (sym so_far.same) in
    let end : b + length right ≡ at + length (left ++ (blanks ++ (own ++ right))) = omega (arith, length-append left (blanks ++ (own ++ right)), length-append blanks (own ++ right), length-append own right) in
    record {
      m = turn.0;
      long = turn.1;
      same = ap (λ (x : List ℕ). level_by next make read (position at x)) whole ∙ sym turn.2 ∙ ap (λ (x : ℕ). more next make read turn.0 (make op l r) (position x u)) end;
    }

-- an operand after an operator: the text from the left side on is the whole one, and the right side stands within it
split_size : (t left blanks own right u : List ℕ) → t ≡ left ++ (blanks ++ (own ++ right)) → (length (left ++ (blanks ++ (own ++ (right ++ u)))) ≡ length (t ++ u)) × (length (right ++ u) ≤ length (t ++ u))
split_size t left blanks own right u is =
    let whole : t ++ u ≡ left ++ (blanks ++ (own ++ (right ++ u))) = ap (λ (x : List ℕ). x ++ u) is ∙ simp append_assoc in
    let size = ap length whole in
    (sym size, omega (arith, size, length-append left (blanks ++ (own ++ (right ++ u))), length-append blanks (own ++ (right ++ u)), length-append own (right ++ u)))

-- no operator of the level of `and` stands after the blanks of a text
abbrev NoJoiner : List ℕ → Type 0
NoJoiner u = (at : ℕ) → joiner_at (skip (position at u)) ≡ None

or_no_joiner : (op : OrOperator) {b : List ℕ} → Blanks b → (v : List ℕ) → NoJoiner (b ++ (or_text op ++ v))
or_no_joiner op {b} r v at = ap joiner_at (skip_again r at (or_text op ++ v) (or_stop op v)) ∙ none op
  where
    none : (op : OrOperator) → joiner_at (position (at + length b) (or_text op ++ v)) ≡ None
    none LiteralOr = refl
    none Pipe = refl
    none Plus = refl

close_no_joiner : {b : List ℕ} → Blanks b → (v : List ℕ) → NoJoiner (b ++ 41 ∷ v)
close_no_joiner r v at = ap joiner_at (skip_again r at (41 ∷ v) (close_stop v))

-- after the blanks at the end of a text stands nothing
end_skipped : {b : List ℕ} → Blanks b → (at : ℕ) → skip (position at b) ≡ position (at + length b) []
end_skipped {b} r at = ap (skip_from at) (sym (append-nil b)) ∙ skip_again r at [] refl

-- ---- expressions

-- the readers of a bound, from a bound that leaves room
basic_of : (n k : ℕ) (p : Position) (r : Option (Placed × Position)) → n ≡ suc k → operand_at (suc k) p ≡ r → operand_at n p ≡ r
basic_of n k p r e h = rw e h

or_of : (n k : ℕ) (p : Position) (r : Option (Placed × Position)) → n ≡ suc k → or_level_by (operand_at (suc k)) p ≡ r → or_level_by (operand_at n) p ≡ r
or_of n k p r e h = rw e h

-- a name before what it stands before: what is read then is a leaf
name_then : (n : ℕ) (at : ℕ) (t : List ℕ) (x : Leaf SourceSpan × Position) → (name_at (position at t) >>= λ y. leaf_at y.0 at y.1) ≡ Some x → operand_by (operand_at n) (position at t) ≡ Some (Set x.0, x.1)
name_then n at t x e = by_name _ (name_at (position at t)) e
  where
    by_name : (other : Option (Placed × Position)) (o : Option (PredicateName × Position)) → (o >>= λ y. leaf_at y.0 at y.1) ≡ Some x → choose o (λ y. set_at y.0 at y.1) other ≡ Some (Set x.0, x.1)
    by_name other (Some y) h = rw h refl
    by_name other None h = absurd cc

-- what is read of the levels of `and` and of `or`, with room for n nested operands
abbrev pub AndRead : ℕ → ℕ → List ℕ → Placed → List ℕ → Type 0
AndRead n at t e u = LevelRead joiner_at join (operand_at (suc n)) at t e u

abbrev pub OrRead : ℕ → ℕ → List ℕ → Placed → List ℕ → Type 0
OrRead n at t e u = LevelRead or_at unite (and_level_by (operand_at (suc n))) at t e u

mutual
  unfolding operand_at

  pub basic_again : {t : List ℕ} {at : ℕ} {e : Placed} → Basic t at e → (n : ℕ) (u : List ℕ) → length (t ++ u) ≤ n → operand_at (suc n) (position at (t ++ u)) ≡ Some (e, position (at + length t) u)
  basic_again (grammar.leaf {t} {at} {l} blanks own b text is) n u le =
      let whole : t ++ u ≡ blanks ++ (own ++ u) = ap (λ (x : List ℕ). x ++ u) is ∙ append_assoc blanks own u in
      let r = leaf_again text u in
      let len : at + length blanks + length own ≡ at + length t = omega (arith, ap length is, length-append blanks own) in
      rw (whole, skip_again b at (own ++ u) r.stop, name_then n (at + length blanks) (own ++ u) _ r.read, len) refl
  basic_again (grammar.negation {t} {at} {op} {e} blanks own b ends inner is) n u le =
      let whole : t ++ u ≡ blanks ++ (not_text op ++ (own ++ u)) = ap (λ (x : List ℕ). x ++ u) is ∙ simp append_assoc in
      let some = basic_some inner in
      let size : length (t ++ u) ≡ length blanks + (length (not_text op) + length (own ++ u)) = ap length whole ∙ simp length-append in
      let op_some = not_some op in
      let k = less n (length (own ++ u)) (length (t ++ u)) (omega arith) le in
      let a = at + length blanks + length (not_text op) in
      let next = basic_of n k.by (position a (own ++ u)) (Some (e, position (a + length own) u)) k.is (basic_again inner k.by u k.holds) in
      let len : a + length own ≡ at + length t = omega (arith, ap length is, length-append blanks (not_text op ++ own), length-append (not_text op) own) in
      rw (whole, skip_again b at (not_text op ++ (own ++ u)) (not_stop op (own ++ u)), not_name op (at + length blanks) (own ++ u), not_again op (at + length blanks) own u some ends, next, len) refl
  basic_again (grammar.parens {t} {at} {e} blanks own behind b inner c is) n u le =
      let last = behind ++ 41 ∷ u in
      let rest = own ++ last in
      let whole : t ++ u ≡ blanks ++ (40 ∷ rest) = ap (λ (x : List ℕ). x ++ u) is ∙ simp append_assoc in
      let size : length (t ++ u) ≡ length blanks + suc (length rest) = ap length whole ∙ length-append blanks (40 ∷ rest) in
      let k = less n (length rest) (length (t ++ u)) (omega arith) le in
      let a = at + length blanks + 1 in
      let read = or_level_again inner k.by last k.holds (close_no_joiner c u) in
      let stop : or_at (skip (position (a + length own) last)) ≡ None = ap or_at (skip_again c (a + length own) (41 ∷ u) (close_stop u)) in
      let all = or_of n k.by (position a rest) (Some (e, position (a + length own) last)) k.is (level_ends or_at unite (and_level_by (operand_at (suc k.by))) a own e last read stop) in
      let len : a + length own + length behind + 1 ≡ at + length t = omega (arith, ap length is, length-append blanks (40 ∷ (own ++ (behind ++ 41 ∷ []))), length-append own (behind ++ 41 ∷ []), length-append behind (41 ∷ [])) in
      rw (whole, skip_again b at (40 ∷ rest) (open_stop rest), all, close_again c (a + length own) u, len) refl

  pub and_level_again : {t : List ℕ} {at : ℕ} {e : Placed} → AndLevel t at e → (n : ℕ) (u : List ℕ) → length (t ++ u) ≤ n → AndRead n at t e u
  and_level_again (grammar.one {t} {at} {e} first) n u le = one_read joiner_at join (operand_at (suc n)) at t e u (basic_again first n u le)
  and_level_again (grammar.join {t} {at} {op} {l} {r} left blanks right first b ends second is) n u le =
      let own = join_text op in
      let behind = blanks ++ (own ++ (right ++ u)) in
      let sizes = split_size t left blanks own right u is in
      let a = at + length left + length blanks in
      let so_far = and_level_again first n behind (omega (arith, sizes.0)) in
      let next = basic_again second n u (omega (arith, sizes.1)) in
      let stands = join_again op a right u (basic_some second) (basic_no_sign second u).0 ends in
      subst (λ (x : List ℕ). AndRead n at x (Join op l r) u) (sym is) (level_grows joiner_at join (operand_at (suc n)) op at left blanks own right l r u b (join_stop op) (basic_some second) stands next so_far)

  pub or_level_again : {t : List ℕ} {at : ℕ} {e : Placed} → OrLevel t at e → (n : ℕ) (u : List ℕ) → length (t ++ u) ≤ n → NoJoiner u → OrRead n at t e u
  or_level_again (grammar.one_and {t} {at} {e} first) n u le none =
      let read = and_level_again first n u le in
      one_read or_at unite (and_level_by (operand_at (suc n))) at t e u (level_ends joiner_at join (operand_at (suc n)) at t e u read (none (at + length t)))
  or_level_again (grammar.union {t} {at} {op} {l} {r} left blanks right first b ends second is) n u le none =
      let own = or_text op in
      let behind = blanks ++ (own ++ (right ++ u)) in
      let sizes = split_size t left blanks own right u is in
      let a = at + length left + length blanks in
      let so_far = or_level_again first n behind (omega (arith, sizes.0)) (or_no_joiner op b (right ++ u)) in
      let read = and_level_again second n u (omega (arith, sizes.1)) in
      let next = level_ends joiner_at join (operand_at (suc n)) (a + length own) right r u read (none (a + length own + length right)) in
      let stands = or_again op a right u (and_some second) (and_no_sign second u).1 ends in
      subst (λ (x : List ℕ). OrRead n at x (Union op l r) u) (sym is) (level_grows or_at unite (and_level_by (operand_at (suc n))) op at left blanks own right l r u b (or_stop op) (and_some second) stands next so_far)

-- the whole text
pub whole_again : (text : List ℕ) (e : Placed) → Spells text e → (n : ℕ) → length text ≤ n → whole_by n text ≡ Some e
whole_again text e spells n le =
    let at = 0 + length spells.own in
    let size : length (spells.own ++ spells.behind) ≤ n = omega (arith, ap length spells.whole) in
    let read = or_level_again spells.expression n spells.behind size (λ a. ap joiner_at (end_skipped spells.blanks a)) in
    let last = end_skipped spells.blanks at in
    let all = level_ends or_at unite (and_level_by (operand_at (suc n))) 0 spells.own e spells.behind read (ap or_at last) in
    rw (spells.whole, all, last) refl

-- one text spells at most one tree
pub one_tree : (text : List ℕ) (d e : Placed) → Spells text d → Spells text e → d ≡ e
one_tree text d e p q =
    let n = length text in
    let a = whole_again text d p n (omega arith) in
    let b = whole_again text e q n (omega arith) in
    is_some d e (sym a ∙ b)
