use Rattle.std.proofs.Common.{◌≡◌, ℕ, ◌+◌, ◌-◌, ◌/◌, ◌<◌, ◌∷◌, length, get_or, ap, sym, subst, ◌∙◌, arith, ⊎_elim, refl}
use Rattle.std.specs.{Int.bit_at, Vec.with_items}
use Rattle.std.proofs.lemmas.{Bool.cases_lt, Bool.cases_eq, List.with_items_is}
use Rattle.filterset_glob.specs.{Positions.Holds, Words.Has, Matching.Admits, Tokens.token_of}
use Rattle.filterset_glob.proofs.{Passing.moves_over, Runs.moves_one}
use Rattle.filterset_glob.proofs.PositionSets.{opened, made, long, length-positions_of, Has-low, Has-high, Has-cases}
use Rattle.filterset_glob.proofs.positions.Positions.step_over.Goals as goal

pub returns-clause-length : goal.returns-clause-length
returns-clause-length c = length-positions_of _ _ ∙ sym (long _ _ c.args.self.now c.self.view_is)

pub returns-clause-moved : goal.returns-clause-moved
returns-clause-moved c =
    let n = c.self.inside.count in
    let f = c.self.inside.first in
    let ws = c.self.inside.later.items in
    let kept = c.keep_first-kept.result in
    let s = c.shift_up-self-inside.result in
    let vs = c.step_over.new.words in
    let e = c.step_over.ensures in
    let later = rw c.keep_first-kept.ensures.same at e.moved in
    let later_on = rw c.keep_first-kept.ensures.same at e.moves in
    let passed : length c.deref_mut.result.now ≡ length ws = ap length c.deref_mut.ensures.value in
    let new : (with_items c.self.inside.later vs).items ≡ vs = with_items_is c.self.inside.later vs (e.length ∙ passed ∙ sym c.self.inside.later.ok.0) in
    let token = token_of c.args.token.now in
    let admits = λ (k : ℕ). Admits token (get_or c.args.text.now k 0) in
    let words : length ws ≡ (n - 1) / 64 = c.self.invariant in
    let long_now : length c.args.self.now ≡ n = long _ _ c.args.self.now c.self.view_is in
    let o = opened n (f ∷ ws) c.args.self.now c.self.view_is in
    moves_one token _ _ _ c.requires.one (moves_over token _ _ _
    (λ h. ⊎_elim (λ p. omega (arith, p.1, c.shift_up-self-inside.ensures.lowest)) (λ p. omega (arith, p.1)) (Has-cases s vs 0 ((made n s vs _ new 0).0 h).1))
    (λ i inside h.
    let here = (o i).1 (omega arith) in
    let low = λ (k : ℕ) (small : k < 64) (is : k ≡ i) (bit : bit_at kept k ≡ 1).
    let both = c.keep_first-kept.ensures.kept k small (omega arith) bit in
    let r : Holds c.args.self.now i × admits i = (here (Has-low f ws i (omega arith) (ap (bit_at f) (sym is) ∙ both.0)), subst admits is both.1) in r in
    ⊎_elim (λ p. low i (omega (arith, p.0)) refl (sym (c.shift_up-self-inside.ensures.moved i (omega (arith, p.0))) ∙ p.1))
    (λ p. ⊎_elim (λ none. low 63 (omega arith) (omega (arith, p.1)) (sym c.highest.ensures.bit ∙ e.lowest (subst (Has vs) none p.2)))
    (λ some.
    let at : i ≡ 64 + (i - 64) = omega (arith, p.1) in
    let back : p.0 ≡ (i - 64) + 1 = omega (arith, p.1) in
    let r = later (i - 64) (omega arith) (subst (Has vs) back p.2) in
    (here (Has-high f ws i (i - 64) at (subst (λ l. Has l (i - 64)) c.deref_mut.ensures.value r.0)), subst admits (sym at) r.1)) (cases_eq p.0 0)) (Has-cases s vs (i + 1) ((made n s vs _ new (i + 1)).0 h).1))
    (λ i inside h takes. (made n s vs _ new (i + 1)).1 (omega arith)
    (⊎_elim (λ p.
    let bit : bit_at kept i ≡ 1 = c.keep_first-kept.ensures.keeps i p.0 (omega arith) p.1 takes in
    ⊎_elim (λ l. Has-low s vs (i + 1) (omega arith) (c.shift_up-self-inside.ensures.moved i l ∙ bit))
    (λ ge.
    let last : i ≡ 63 = omega (arith, p.0) in
    Has-high s vs (i + 1) 0 (omega arith) (e.lowest_kept (omega arith) (c.highest.ensures.bit ∙ ap (bit_at kept) (sym last) ∙ bit))) (cases_lt i 63))
    (λ p.
    let at : i ≡ 64 + p.0 = p.1 in
    Has-high s vs (i + 1) (p.0 + 1) (omega arith)
    (later_on p.0 (omega arith) (omega arith) (subst (λ l. Has l p.0) (sym c.deref_mut.ensures.value) p.2) (subst admits at takes))) (Has-cases f ws i ((o i).0 h).1))))
