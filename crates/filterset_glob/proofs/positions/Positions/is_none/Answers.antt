use Rattle.std.proofs.Common.{◌≡◌, length, ap, sym, ◌∙◌, arith, eqb-true, ⊎_elim}
use Rattle.std.specs.Int.{bit_at}
use Rattle.std.proofs.lemmas.Nat.Bits.{bit_at-zero}
use Rattle.filterset_glob.proofs.PositionSets.{opened, Has-cases, Has-within}
use Rattle.filterset_glob.proofs.positions.Positions.is_none.Goals as goal

pub returns-then-self-eq0-clause-none : goal.returns-then-self-eq0-clause-none
returns-then-self-eq0-clause-none c empty i h =
    let f = c.self.inside.first in
    let ws = c.self.inside.later.items in
    let none : length ws ≡ 0 = sym c.self.inside.later.ok.0 ∙ eqb-true _ 0 (sym c.is_empty.ensures ∙ empty) in
    let zero : f ≡ 0 = omega arith in
    ⊎_elim (λ p. omega (arith, p.1, ap (λ w. bit_at w i) zero, bit_at-zero i)) (λ p. omega (arith, Has-within ws p.0 p.2)) (Has-cases f ws i ((opened _ _ c.args.self.now c.self.view_is i).0 h).1)
