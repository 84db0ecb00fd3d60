-- One step of reading an expression.
use Rattle.std.proofs.Common.{◌≡◌, ℕ, zero, suc, ◌<◌, ◌≤◌, List, length, Option, Some, None, true, refl, sym, ◌∙◌, subst, arith}
use Rattle.std.specs.Prelude.{codes, is_some}
use Rattle.filterset_grammar.specs.declared.operators.NotOperator.{NotOperator}
use Rattle.filterset_language.specs.{declared.parsing.names.PredicateName.PredicateName, Parsing.Recovery.NoOperand}
use Rattle.filterset_language.specs.Parsing.Position.{Position, position, skip, after}
use Rattle.filterset_language.specs.Parsing.Words.{not_at, name_at}
use Rattle.filterset_language.specs.Parsing.Descent.{Placed, Reader, Next, Make, operand_at, set_at, negated_by, enclosed_by, more}
use Rattle.filterset_language.proofs.StepsTakeText.{after_takes}

-- the bound for what is nested
pub record Less (n below : ℕ) : Type 0 where
  pub by : ℕ
  pub is : n ≡ suc by
  pub holds : below ≤ by

pub less : (n inner outer : ℕ) → inner < outer → outer ≤ n → Less n inner
less zero inner outer lt le = absurd (omega arith)
less (suc n) inner outer lt le = record { by = n; is = refl; holds = omega arith }

-- the step that the code takes, after a negation and after an opening parenthesis
pub negation_step : (n : ℕ) (p s q : Position) (op : NotOperator) → s ≡ skip p → None ≡ name_at s → Some (op, q) ≡ not_at s
    → operand_at (suc n) p ≡ negated_by op (operand_at n) q
unfolding operand_at
negation_step n p s q op skipped no_name stands = rw (← skipped, ← no_name, ← stands) refl

pub parens_step : (n : ℕ) (p s q : Position) → s ≡ skip p → None ≡ name_at s → None ≡ not_at s → Some q ≡ after (codes "(") s
    → operand_at (suc n) p ≡ enclosed_by (operand_at n) q
unfolding operand_at
parens_step n p s q skipped no_name no_not stands = rw (← skipped, ← no_name, ← no_not, ← stands) refl

pub nothing_step : (n : ℕ) (p s : Position) → NoOperand p s → None ≡ operand_at (suc n) p
unfolding operand_at
nothing_step n p s h = rw (← h.skipped, ← h.no_name, ← h.no_not, ← h.no_open) refl

-- where `^` stands no operand is read
pub caret_step : (n : ℕ) (p : Position) → is_some (after (codes "^") (skip p)) ≡ true → operand_at (suc n) p ≡ None
caret_step n p stands = from (after (codes "^") (skip p)) refl stands
  where
    from : (o : Option Position) → after (codes "^") (skip p) ≡ o → is_some o ≡ true → operand_at (suc n) p ≡ None
    from None e some = absurd cc
    from (Some q) e some =
        let rest = sym (after_takes (codes "^") (skip p) q e).parts in
        let at = (skip p).at in
        sym
        (nothing_step n p (skip p)
        (record {
          skipped = refl;
          no_name = subst (λ (t : List ℕ). None ≡ name_at (position at t)) rest refl;
          no_not = subst (λ (t : List ℕ). None ≡ not_at (position at t)) rest refl;
          no_open = subst (λ (t : List ℕ). None ≡ after (codes "(") (position at t)) rest refl;
        }))

pub name_step : (n : ℕ) (p s q : Position) (name : PredicateName) → s ≡ skip p → Some (name, q) ≡ name_at s → operand_at (suc n) p ≡ set_at name s.at q
unfolding operand_at
name_step n p s q name skipped stands = rw (← skipped, ← stands) refl

-- one turn of the loop over the operators of a level
pub loop_turns : {O : Type 0} (next : Next O) (make : Make O) (read : Reader) (m : ℕ) (left right : Placed) (op : O) (p s q r : Position) (total : Option (Placed × Position)) → length r.rest < length p.rest → length p.rest ≤ m
    → s ≡ skip p → Some (Some op, q) ≡ next s → read q ≡ Some (right, r) → more next make read m left p ≡ total → (k : ℕ) × (length r.rest ≤ k) × (more next make read k (make op left right) r ≡ total)
loop_turns next make read zero left right op p s q r total lt le skipped stands turn so_far = absurd (omega arith)
loop_turns next make read (suc m) left right op p s q r total lt le skipped stands turn so_far =
    let one : more next make read (suc m) left p ≡ more next make read m (make op left right) r = rw (← skipped, ← stands, turn) refl in
    (m, omega arith, sym one ∙ so_far)

pub more_ends : {O : Type 0} (next : Next O) (make : Make O) (read : Reader) (m : ℕ) (e : Placed) (p : Position) → next (skip p) ≡ None → more next make read m e p ≡ Some (e, p)
more_ends next make read zero e p h = refl
more_ends next make read (suc m) e p h = rw h refl
