-- What is read is spelled so.
use Rattle.std.proofs.Common.{◌≡◌, ℕ, zero, suc, ◌+◌, ◌<◌, Bool, true, false, cond, List, [], ◌∷◌, ◌++◌, length, take, Some, None, refl, sym, ap, ◌∙◌, subst, arith, ⊎_elim}
use Rattle.std.specs.Prelude.{codes, ◌==◌, Option}
use Rattle.std.proofs.lemmas.{Bool.eqb-true, List.append-nil, List.take_at, List.nil_from_length}
use Rattle.filterset_grammar.specs.Grammar.{LeafText, not_text, or_text, join_text, not_ends, or_ends, join_ends, Basic, AndLevel, OrLevel, Spells}
use Rattle.filterset_grammar.specs.{Text.Blanks, Text.no_blank, Text.ends_word, Tree.Not, Tree.Parens, Tree.Set}
use Rattle.filterset_grammar.specs.declared.operators.AndOperator.TheVariants.{LiteralAnd, Ampersand}
use Rattle.filterset_grammar.specs.declared.operators.{DifferenceOperator.TheVariants.Minus, Joiner.Joiner}
use Rattle.filterset_grammar.specs.declared.operators.Joiner.TheVariants.{Both, Without, ExactlyOne}
use Rattle.filterset_grammar.specs.declared.operators.NotOperator.{NotOperator}
use Rattle.filterset_grammar.specs.declared.operators.NotOperator.TheVariants.{LiteralNot, Exclamation}
use Rattle.filterset_grammar.specs.declared.operators.OrOperator.{OrOperator}
use Rattle.filterset_grammar.specs.declared.operators.OrOperator.TheVariants.{LiteralOr, Pipe, Plus}
use Rattle.filterset_grammar.specs.declared.operators.SymmetricDifferenceOperator.TheVariants.{Caret}
use Rattle.filterset_language.specs.Parsing.Position.{Position, position, skip, after}
use Rattle.filterset_language.specs.Parsing.Words.{not_at, joiner_at, or_at, name_at}
use Rattle.filterset_language.specs.declared.parsing.names.PredicateName.{PredicateName}
use Rattle.filterset_language.specs.Parsing.Descent.{Placed, ◌>>=◌, Reader, Next, Make, more, level_by, join, and_level_by, unite, or_level_by, leaf_at, set_at, operand_by, operand_at, nothing_behind, whole_by}
use Rattle.filterset_language.proofs.SpelledIsNotEmpty.{basic_some, and_some}
use Rattle.filterset_language.proofs.ReadLeavesAreSpelled.{leaf_takes}
use Rattle.filterset_language.proofs.StepsTakeText.{bind_is, choose_is, is_some, Takes, Takes-then, skip_takes, after_takes, not_takes, JoinerTaken, joiner_takes, OrTaken, or_takes, name_takes}
use Rattle.filterset_grammar.specs.Grammar as grammar

-- which texts spell which trees; a text begins at the offset
abbrev Spelling : Type 1
Spelling = List ℕ → ℕ → Placed → Type 0

-- the text between two positions spells the tree
record Taken (Level : Spelling) (p : Position) (e : Placed) (q : Position) : Type 0 where
  own : List ℕ
  takes : Takes p own q
  text : Level own p.at e

-- what a reader reads is spelled so
abbrev IsSound : Spelling → Reader → Type 0
IsSound Level read = (p : Position) (x : Placed × Position) → read p ≡ Some x → Taken Level p x.0 x.1

-- ---- operands of a level

-- a word that ends before a text ends before the text's own front
front_ends : (own u : List ℕ) → 0 < length own → ends_word (own ++ u) ≡ true → ends_word own ≡ true
front_ends [] u lt h = absurd (omega arith)
front_ends (b ∷ own) u lt h = h

-- a level: its operators, what they stand between, and what the level makes of these
module _ (O : Type 0) (next : Next O) (make : Make O) (op_text : O → List ℕ) (op_ends : O → List ℕ → Type 0) (Operand Level : Spelling)
    (operand_some : (t : List ℕ) (at : ℕ) (e : Placed) → Operand t at e → 0 < length t)
    (ends_front : (op : O) (own u : List ℕ) → 0 < length own → op_ends op (own ++ u) → op_ends op own)
    (next_takes : (p : Position) (op : O) (q : Position) → next p ≡ Some (Some op, q) → Takes p (op_text op) q × op_ends op q.rest)
    (first : (t : List ℕ) (at : ℕ) (e : Placed) → Operand t at e → Level t at e)
    (joined : (at : ℕ) (op : O) (l r : Placed) (left blanks right : List ℕ) → Level left at l → Blanks blanks → op_ends op right
    → Operand right (at + length left + length blanks + length (op_text op)) r → Level (left ++ (blanks ++ (op_text op ++ right))) at (make op l r))
    (read : Reader) (sound : IsSound Operand read) where
  more_takes : (n : ℕ) (left : Placed) (start p : Position) (x : Placed × Position) → Taken Level start left p → more next make read n left p ≡ Some x → Taken Level start x.0 x.1
  more_takes zero left start p x taken e = subst (λ (y : Placed × Position). Taken Level start y.0 y.1) (is_some (left, p) x e) taken
  more_takes (suc n) left start p x taken e =
      ⊎_elim
      (λ a.
      let o = bind_is a.0.0 (λ op. read a.0.1 >>= λ y. more next make read n (make op left y.0) y.1) x a.2 in
      let op = o.0 in
      let q = a.0.1 in
      let b = bind_is (read q) (λ y. more next make read n (make op left y.0) y.1) x o.2 in
      let right = b.0.0 in
      let r = b.0.1 in
      let k = skip_takes p.rest p.at in
      let j = next_takes (skip p) op q (a.1 ∙ ap (λ (w : Option O). Some (w, q)) o.1) in
      let s = sound q b.0 b.1 in
      let all = Takes-then start p r taken.own (k.blanks ++ (op_text op ++ s.own)) taken.takes (Takes-then p (skip p) r k.blanks (op_text op ++ s.own) k.takes (Takes-then (skip p) q r (op_text op) s.own j.0 s.takes)) in
      let at : q.at ≡ start.at + length taken.own + length k.blanks + length (op_text op) = omega (arith, taken.takes.offset, k.takes.offset, j.0.offset) in
      let text = subst (λ (m : ℕ). Operand s.own m right) at s.text in
      let ends = ends_front op s.own r.rest (operand_some s.own q.at right s.text) (subst (op_ends op) s.takes.parts j.1) in
      let turn : Taken Level start (make op left right) r = record { own = taken.own ++ (k.blanks ++ (op_text op ++ s.own)); takes = all; text = joined start.at op left right taken.own k.blanks s.own taken.text k.are ends text } in
      more_takes n (make op left right) start r x turn b.2)
      (λ a. subst (λ (y : Placed × Position). Taken Level start y.0 y.1) (is_some (left, p) x a.1) taken)
      (choose_is (next (skip p)) _ _ x e)

  level_takes : IsSound Level (level_by next make read)
  level_takes p x e =
      let b = bind_is (read p) (λ y. more next make read (length y.1.rest) y.0 y.1) x e in
      let s = sound p b.0 b.1 in
      more_takes (length b.0.1.rest) b.0.0 p b.0.1 x (record { own = s.own; takes = s.takes; text = first s.own p.at b.0.0 s.text }) b.2

join_takes : (p : Position) (op : Joiner) (q : Position) → joiner_at p ≡ Some (Some op, q) → Takes p (join_text op) q × join_ends op q.rest
unfolding JoinerTaken
join_takes p op q e = joiner_takes p (Some op, q) e

join_ends_front : (op : Joiner) (own u : List ℕ) → 0 < length own → join_ends op (own ++ u) → join_ends op own
join_ends_front (Both LiteralAnd) own u lt h = front_ends own u lt h
join_ends_front (Both Ampersand) own u lt h = tt
join_ends_front (Without Minus) own u lt h = tt
join_ends_front (ExactlyOne Caret) own u lt h = tt

and_takes : (read : Reader) → IsSound Basic read → IsSound AndLevel (and_level_by read)
and_takes read sound =
    level_takes
    Joiner
    joiner_at
    join
    join_text
    join_ends
    Basic
    AndLevel
    (λ t at e text. basic_some text)
    join_ends_front
    join_takes
    (λ t at e text. grammar.one text)
    (λ at op l r left blanks right a b ends c. grammar.join left blanks right a b ends c refl)
    read
    sound

union_takes : (p : Position) (op : OrOperator) (q : Position) → or_at p ≡ Some (Some op, q) → Takes p (or_text op) q × or_ends op q.rest
unfolding OrTaken
union_takes p op q e = or_takes p (Some op, q) e

or_ends_front : (op : OrOperator) (own u : List ℕ) → 0 < length own → or_ends op (own ++ u) → or_ends op own
or_ends_front LiteralOr own u lt h = front_ends own u lt h
or_ends_front Pipe own u lt h = tt
or_ends_front Plus own u lt h = tt

or_level_takes : (read : Reader) → IsSound Basic read → IsSound OrLevel (or_level_by read)
or_level_takes read sound =
    level_takes
    OrOperator
    or_at
    unite
    or_text
    or_ends
    AndLevel
    OrLevel
    (λ t at e text. and_some text)
    or_ends_front
    union_takes
    (λ t at e text. grammar.one_and text)
    (λ at op l r left blanks right a b ends c. grammar.union left blanks right a b ends c refl)
    (and_level_by read)
    (and_takes read sound)

-- ---- operands

not_ends_front : (op : NotOperator) (own u : List ℕ) → 0 < length own → not_ends op (own ++ u) → not_ends op own
not_ends_front LiteralNot own u lt h = front_ends own u lt h
not_ends_front Exclamation own u lt h = tt

leaf_step_takes : (p q : Position) (x : Placed × Position) (n : PredicateName) → name_at (skip p) ≡ Some (n, q) → set_at n (skip p).at q ≡ Some x → Taken Basic p x.0 x.1
leaf_step_takes p q x n stands e =
    let s = skip p in
    let k = skip_takes p.rest p.at in
    let b = bind_is (leaf_at n s.at q) (λ l. Some (Set l.0, l.1)) x e in
    let l = leaf_takes s n q b.0 (name_takes s (n, q) stands) b.1 in
    let text = subst (λ (m : ℕ). LeafText l.own m b.0.0) k.takes.offset l.text in
    let is : Taken Basic p (Set b.0.0) b.0.1 = record { own = k.blanks ++ l.own; takes = Takes-then p s b.0.1 k.blanks l.own k.takes l.takes; text = grammar.leaf k.blanks l.own k.are text refl } in
    subst (λ (y : Placed × Position). Taken Basic p y.0 y.1) (is_some (Set b.0.0, b.0.1) x b.2) is

negation_step_takes : (read : Reader) → IsSound Basic read → (p q : Position) (x : Placed × Position) (op : NotOperator) → not_at (skip p) ≡ Some (op, q) → (read q >>= λ e. Some (Not op e.0, e.1)) ≡ Some x → Taken Basic p x.0 x.1
negation_step_takes read sound p q x op stands e =
    let s = skip p in
    let k = skip_takes p.rest p.at in
    let n = not_takes s (op, q) stands in
    let b = bind_is (read q) (λ y. Some (Not op y.0, y.1)) x e in
    let i = sound q b.0 b.1 in
    let at : q.at ≡ p.at + length k.blanks + length (not_text op) = omega (arith, k.takes.offset, n.0.offset) in
    let text = subst (λ (m : ℕ). Basic i.own m b.0.0) at i.text in
    let ends = not_ends_front op i.own b.0.1.rest (basic_some i.text) (subst (not_ends op) i.takes.parts n.1) in
    let all = Takes-then p s b.0.1 k.blanks (not_text op ++ i.own) k.takes (Takes-then s q b.0.1 (not_text op) i.own n.0 i.takes) in
    let is : Taken Basic p (Not op b.0.0) b.0.1 = record { own = k.blanks ++ (not_text op ++ i.own); takes = all; text = grammar.negation k.blanks i.own k.are ends text refl } in
    subst (λ (y : Placed × Position). Taken Basic p y.0 y.1) (is_some (Not op b.0.0, b.0.1) x b.2) is

parens_step_takes : (read : Reader) → IsSound Basic read → (p q : Position) (x : Placed × Position) → after (codes "(") (skip p) ≡ Some q
    → (or_level_by read q >>= λ e. after (codes ")") (skip e.1) >>= λ r. Some (Parens e.0, r)) ≡ Some x → Taken Basic p x.0 x.1
parens_step_takes read sound p q x stands e =
    let s = skip p in
    let k = skip_takes p.rest p.at in
    let o = after_takes (codes "(") s q stands in
    let c = bind_is (or_level_by read q) (λ y. after (codes ")") (skip y.1) >>= λ r. Some (Parens y.0, r)) x e in
    let inner = c.0.0 in
    let j = c.0.1 in
    let i = or_level_takes read sound q c.0 c.1 in
    let behind = skip_takes j.rest j.at in
    let d = bind_is (after (codes ")") (skip j)) (λ r. Some (Parens inner, r)) x c.2 in
    let close = after_takes (codes ")") (skip j) d.0 d.1 in
    let at : q.at ≡ p.at + length k.blanks + 1 = omega (arith, k.takes.offset, o.offset) in
    let text = subst (λ (m : ℕ). OrLevel i.own m inner) at i.text in
    let last = Takes-then j (skip j) d.0 behind.blanks (codes ")") behind.takes close in
    let rest = Takes-then q j d.0 i.own (behind.blanks ++ 41 ∷ []) i.takes last in
    let all = Takes-then p s d.0 k.blanks (40 ∷ (i.own ++ (behind.blanks ++ 41 ∷ []))) k.takes (Takes-then s q d.0 (codes "(") (i.own ++ (behind.blanks ++ 41 ∷ [])) o rest) in
    let is : Taken Basic p (Parens inner) d.0 = record { own = k.blanks ++ (40 ∷ (i.own ++ (behind.blanks ++ 41 ∷ []))); takes = all; text = grammar.parens k.blanks i.own behind.blanks k.are text behind.are refl } in
    subst (λ (y : Placed × Position). Taken Basic p y.0 y.1) (is_some (Parens inner, d.0) x d.2) is

operand_takes : (read : Reader) → IsSound Basic read → (p : Position) (x : Placed × Position) → operand_by read (skip p) ≡ Some x → Taken Basic p x.0 x.1
operand_takes read sound p x e =
    let s = skip p in
    ⊎_elim
    (λ a. leaf_step_takes p a.0.1 x a.0.0 a.1 a.2)
    (λ no_name. ⊎_elim
    (λ a. negation_step_takes read sound p a.0.1 x a.0.0 a.1 a.2)
    (λ no_not.
    let b = bind_is (after (codes "(") s) (λ q. or_level_by read q >>= λ y. after (codes ")") (skip y.1) >>= λ r. Some (Parens y.0, r)) x no_not.1 in
    parens_step_takes read sound p b.0 x b.1 b.2)
    (choose_is (not_at s) _ _ x no_name.1))
    (choose_is (name_at s) _ _ x e)

basic_takes : (n : ℕ) → IsSound Basic (operand_at n)
unfolding operand_at
basic_takes zero p x e = absurd cc
basic_takes (suc n) p x e = operand_takes (operand_at n) (basic_takes n) p x e

-- ---- texts

-- the whole text
pub whole_takes : (n : ℕ) (text : List ℕ) (e : Placed) → whole_by n text ≡ Some e → Spells text e
whole_takes n text e h =
    let b = bind_is (or_level_by (operand_at (suc n)) (position 0 text)) (λ x. nothing_behind x.0 (skip x.1)) e h in
    let i = or_level_takes (operand_at (suc n)) (basic_takes (suc n)) (position 0 text) b.0 b.1 in
    let k = skip_takes b.0.1.rest b.0.1.at in
    let last = ended (length (skip b.0.1).rest == 0) b.0.0 e b.2 in
    let none : (skip b.0.1).rest ≡ [] = nil_from_length (skip b.0.1).rest (eqb-true _ _ last.0) in
    let behind : b.0.1.rest ≡ k.blanks = k.takes.parts ∙ ap (λ (t : List ℕ). k.blanks ++ t) none ∙ append-nil k.blanks in
    record {
      own = i.own;
      behind = k.blanks;
      whole = i.takes.parts ∙ ap (λ (t : List ℕ). i.own ++ t) behind;
      expression = subst (λ (d : Placed). OrLevel i.own 0 d) last.1 i.text;
      blanks = k.are;
    }
  where
    ended : (v : Bool) (d e : Placed) → cond v (Some d) None ≡ Some e → (v ≡ true) × (d ≡ e)
    ended true d e h = (refl, is_some d e h)
    ended false d e h = absurd cc

-- what was read from the start spells the tree
pub front_takes_whole : (n : ℕ) (text : List ℕ) (e : Placed) (q : Position) → or_level_by (operand_at (suc n)) (position 0 text) ≡ Some (e, q) → Spells (take q.at text) e
front_takes_whole n text e q h =
    let i = or_level_takes (operand_at (suc n)) (basic_takes (suc n)) (position 0 text) (e, q) h in
    let at : q.at ≡ length i.own = omega (arith, i.takes.offset) in
    let cut : take q.at text ≡ i.own = ap (λ (k : ℕ). take k text) at ∙ ap (take (length i.own)) i.takes.parts ∙ take_at i.own q.rest (length i.own) refl in
    record { own = i.own; behind = []; whole = cut ∙ sym (append-nil i.own); expression = i.text; blanks = no_blank }
