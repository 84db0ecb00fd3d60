use Rattle.std.proofs.Common.{◌≡◌, ℕ, ◌+◌, inl, true, ◌∷◌, length, take, refl, ap, sym, ◌∙◌, arith, eqb-true, ⊎_elim, rules}
use Rattle.std.specs.Int.{bit_at}
use Rattle.std.proofs.lemmas.Nat.Bits.{bit_at-zero}
use Rattle.filterset_glob.specs.{Positions.Holds, Words.Has, Matching.Matches, Tokens.token_of, Tokens.tokens_of}
use Rattle.filterset_glob.proofs.PositionSets.{opened, long, length-positions_of, Has-low, Has-cases, Has-within, Has-from_Holds}
use Rattle.filterset_glob.proofs.{Passing.moves_nowhere, Runs.first_of_some, Runs.moves_alone, Runs.moves_stopped}
use Rattle.filterset_glob.proofs.positions.Positions.run_over.Goals.{else-not-is_empty-via-then-not-is_empty+else-not-are_none, else-not-is_empty-via-else-not-is_empty}
use Rattle.filterset_glob.proofs.positions.Positions.run_over.Goals as goal

pub returns-then-is_empty-clause-moved : goal.returns-then-is_empty-clause-moved
returns-then-is_empty-clause-moved c =
    let f = c.self.inside.first in
    let ws = c.self.inside.later.items in
    let zero : f ≡ 0 = c.if-word-eq0.true in
    let none : length ws ≡ 0 = sym c.self.inside.later.ok.0 ∙ eqb-true _ 0 (sym c.is_empty.ensures ∙ c.if-is_empty.true) in
    moves_nowhere (Matches (tokens_of (take (length c.args.tokens.now) c.args.tokens.now))) c.args.text.now c.args.self.now
    (λ i h. ⊎_elim (λ p. omega (arith, p.1, ap (λ w. bit_at w i) zero, bit_at-zero i)) (λ p. omega (arith, Has-within ws p.0 p.2)) (Has-cases f ws i ((opened _ _ c.args.self.now c.self.view_is i).0 h).1))

pub returns-then-is_empty-clause-exactly : goal.returns-then-is_empty-clause-exactly
returns-then-is_empty-clause-exactly c i h =
    let f = c.self.inside.first in
    let ws = c.self.inside.later.items in
    let zero : f ≡ 0 = c.if-word-eq0.true in
    let none : length ws ≡ 0 = sym c.self.inside.later.ok.0 ∙ eqb-true _ 0 (sym c.is_empty.ensures ∙ c.if-is_empty.true) in
    absurd (⊎_elim (λ p. omega (arith, p.1, ap (λ w. bit_at w i) zero, bit_at-zero i)) (λ p. omega (arith, Has-within ws p.0 p.2)) (Has-cases f ws i ((opened _ _ c.args.self.now c.self.view_is i).0 h).1))

pub returns-then-run-eq0-clause-length : goal.returns-then-run-eq0-clause-length
returns-then-run-eq0-clause-length c = length-positions_of _ _ ∙ sym (long _ _ c.args.self.now c.self.view_is)

pub returns-then-run-eq0-clause-moved : goal.returns-then-run-eq0-clause-moved
returns-then-run-eq0-clause-moved c =
    let n = c.self.inside.count in
    let f = c.self.inside.first in
    let ws = c.self.inside.later.items in
    let at = c.lowest-position.result in
    let none : (i : ℕ) → ¬ Has ws i = elim c.else-not-is_empty.branch [
      | else-not-is_empty-via-then-not-is_empty+else-not-are_none w ↦ let plain : w.are_none.result ≡ true = search rules in rw w.deref.ensures.value at (w.are_none.ensures plain)
      | else-not-is_empty-via-else-not-is_empty w ↦ let none : length ws ≡ 0 = sym c.self.inside.later.ok.0 ∙ eqb-true _ 0 (sym c.is_empty-2.ensures ∙ w.if-not-is_empty.false) in λ i h. omega (arith, Has-within ws i h)
    ] in
    let o = opened n (f ∷ ws) c.args.self.now c.self.view_is in
    let only_p : (i : ℕ) → Holds c.args.self.now i → i ≡ at = λ i h.
    ⊎_elim (λ p. c.mask_of.ensures.alone i (ap (λ w. bit_at w i) (sym c.if-word-mask_of.false) ∙ p.1)) (λ p. absurd (none p.0 p.2)) (Has-cases f ws i ((o i).0 h).1) in
    let (token, first) = first_of_some c.args.tokens.now c.requires.some in
    rw first
    (moves_stopped (token_of token) c.args.text.now c.args.self.now _ at (c.requires.one token first) only_p (c.count_admitted-run.ensures.stopped token first c.if-run-eq0.true)
    (λ i h. ⊎_elim (λ p. omega (arith, p.1, bit_at-zero i)) (λ p. none p.0 p.2) (Has-cases 0 ws i (Has-from_Holds n (0 ∷ ws) i h).1)))

pub hold-requires : goal.hold-requires
hold-requires c = omega (arith, length-positions_of c.self.inside.count (0 ∷ c.self.inside.later.items), long _ _ c.args.self.now c.self.view_is)

pub returns-clause-length : goal.returns-clause-length
returns-clause-length c = c.hold.ensures.length ∙ length-positions_of c.self.inside.count (0 ∷ c.self.inside.later.items) ∙ sym (long _ _ c.args.self.now c.self.view_is)

pub returns-clause-moved : goal.returns-clause-moved
returns-clause-moved c =
    let n = c.self.inside.count in
    let f = c.self.inside.first in
    let ws = c.self.inside.later.items in
    let at = c.lowest-position.result in
    let run = c.count_admitted-run.result in
    let none : (i : ℕ) → ¬ Has ws i = elim c.else-not-is_empty.branch [
      | else-not-is_empty-via-then-not-is_empty+else-not-are_none w ↦ let plain : w.are_none.result ≡ true = search rules in rw w.deref.ensures.value at (w.are_none.ensures plain)
      | else-not-is_empty-via-else-not-is_empty w ↦ let none : length ws ≡ 0 = sym c.self.inside.later.ok.0 ∙ eqb-true _ 0 (sym c.is_empty-2.ensures ∙ w.if-not-is_empty.false) in λ i h. omega (arith, Has-within ws i h)
    ] in
    let o = opened n (f ∷ ws) c.args.self.now c.self.view_is in
    let only_p : (i : ℕ) → Holds c.args.self.now i → i ≡ at = λ i h.
    ⊎_elim (λ p. c.mask_of.ensures.alone i (ap (λ w. bit_at w i) (sym c.if-word-mask_of.false) ∙ p.1)) (λ p. absurd (none p.0 p.2)) (Has-cases f ws i ((o i).0 h).1) in
    let held_p : Holds c.args.self.now at = (o at).1 (omega (arith, long _ _ c.args.self.now c.self.view_is)) (Has-low f ws at c.lowest-position.ensures.small c.lowest-position.ensures.set) in
    let only_q : (i : ℕ) → Holds c.hold.new.self i → i ≡ at + run = λ i h.
    ⊎_elim (λ e. e) (λ m. absurd (⊎_elim (λ p. omega (arith, p.1, bit_at-zero i)) (λ p. none p.0 p.2) (Has-cases 0 ws i (Has-from_Holds n (0 ∷ ws) i m).1))) ((c.hold.ensures.held i).0 h) in
    moves_alone (tokens_of (take run c.args.tokens.now)) c.args.text.now c.args.self.now c.hold.new.self at run
    only_p held_p only_q ((c.hold.ensures.held (at + run)).1 (inl refl)) c.count_admitted-run.ensures.matched c.count_admitted-run.ensures.one_each
