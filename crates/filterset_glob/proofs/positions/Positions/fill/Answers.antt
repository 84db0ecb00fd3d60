use Rattle.std.proofs.Common.{◌≡◌, ℕ, ◌+◌, ◌-◌, ◌/◌, ◌<◌, ◌≤◌, ◌∷◌, true, false, length, ap, sym, ◌∙◌, arith, ⊎_elim}
use Rattle.std.specs.{Int.bit_at, Vec.with_items}
use Rattle.std.proofs.lemmas.{Bool.cases_lt, List.with_items_is}
use Rattle.filterset_glob.specs.Positions.{Holds}
use Rattle.filterset_glob.proofs.Passing.{moves_anywhere}
use Rattle.filterset_glob.proofs.PositionSets.{opened, made, long, length-positions_of, Has-low, Has-high, Has-cases}
use Rattle.filterset_glob.proofs.positions.Positions.fill.Goals as goal

pub returns-clause-length : goal.returns-clause-length
returns-clause-length c = length-positions_of _ _ ∙ sym (long _ _ c.args.self.now c.self.view_is)

pub returns-clause-moved : goal.returns-clause-moved
returns-clause-moved c text same =
    let n = c.self.inside.count in
    let f = c.self.inside.first in
    let ws = c.self.inside.later.items in
    let g = c.fill_up-self-inside.result in
    let vs = c.fill.new.words in
    let e = c.fill_up-self-inside.ensures in
    let filled = rw c.deref_mut.ensures.value at c.fill.ensures.filled in
    let all = rw c.deref_mut.ensures.value at c.fill.ensures.all in
    let fills = rw c.deref_mut.ensures.value at c.fill.ensures.fills in
    let new : (with_items c.self.inside.later vs).items ≡ vs = with_items_is c.self.inside.later vs (c.fill.ensures.length ∙ ap length c.deref_mut.ensures.value ∙ sym c.self.inside.later.ok.0) in
    let words : length ws ≡ (n - 1) / 64 = c.self.invariant in
    let o = opened n (f ∷ ws) c.args.self.now c.self.view_is in
    moves_anywhere text c.args.self.now _ same
    (λ j within h.
    let z = (made n g vs _ new j).0 h in
    let low = λ (k : ℕ) (small : k < 64) (le : k ≤ j) (bit : bit_at g k ≡ 1).
    let r : (i : ℕ) × (i ≤ j) × Holds c.args.self.now i = ⊎_elim (λ no. absurd (let x : false ≡ true = no in cc)) (λ p. (p.0, omega (arith, p.1), (o p.0).1 (omega (arith, p.1)) (Has-low f ws p.0 (omega (arith, p.1)) p.2))) (e.filled k bit) in r in
    ⊎_elim (λ p. low j p.0 (omega arith) p.1) (λ p.
    let at : j ≡ 64 + p.0 = p.1 in
    ⊎_elim (λ yes. low 63 (omega arith) (omega arith) (c.has.ensures.0 yes))
    (λ q. (64 + q.0, omega (arith, q.1), (o (64 + q.0)).1 (omega (arith, q.1)) (Has-high f ws (64 + q.0) q.0 (omega arith) q.2))) (filled p.0 p.2)) (Has-cases g vs j z.1))
    (λ i j le within h.
    let inside : j < n = omega (arith, long _ _ c.args.self.now c.self.view_is) in
    (made n g vs _ new j).1 inside
    (⊎_elim (λ small. Has-low g vs j small (⊎_elim (λ p. e.fills i j le small p.1) (λ p. absurd (omega (arith, p.1))) (Has-cases f ws i ((o i).0 h).1)))
    (λ ge. Has-high g vs j (j - 64) (omega arith)
    (⊎_elim (λ p. all (j - 64) (omega arith) (c.has.ensures.1 (e.fills i 63 (omega (arith, p.0)) (omega arith) p.1)))
    (λ p. fills p.0 (j - 64) (omega (arith, p.1)) (omega arith) p.2) (Has-cases f ws i ((o i).0 h).1)))
    (cases_lt j 64)))
