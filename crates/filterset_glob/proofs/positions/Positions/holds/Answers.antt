use Rattle.std.proofs.Common.{◌≡◌, ◌-◌, ◌/◌, ◌%◌, ◌<◌, ◌∷◌, length, get_or, ap, sym, subst, ◌∙◌, arith, ⊎_elim}
use Rattle.std.specs.Int.{bit_at}
use Rattle.std.proofs.lemmas.Grind.{get_or_default_zero}
use Rattle.filterset_glob.specs.Words.{Has}
use Rattle.filterset_glob.proofs.PositionSets.{opened, long, Has-low, Has-high, Has-cases, Has-word}
use Rattle.filterset_glob.proofs.positions.Positions.holds.Goals as goal

pub index-requires : goal.index-requires
index-requires c =
    let words : length c.self.inside.later.items ≡ (c.self.inside.count - 1) / 64 = c.self.invariant in
    omega (arith, long _ _ c.args.self.now c.self.view_is)

pub returns-then-position-lt64 : goal.returns-then-position-lt64
returns-then-position-lt64 c =
    let i = c.args.position in
    let f = c.self.inside.first in
    let ws = c.self.inside.later.items in
    let o = opened c.self.inside.count (f ∷ ws) c.args.self.now c.self.view_is i in (
      λ yes. o.1 (omega (arith, long _ _ c.args.self.now c.self.view_is)) (Has-low f ws i (omega arith) (c.has.ensures.0 yes)),
      λ h. c.has.ensures.1 (⊎_elim (λ p. p.1) (λ p. absurd (omega (arith, p.1))) (Has-cases f ws i (o.0 h).1)),
    )

pub returns-else-position-lt64 : goal.returns-else-position-lt64
returns-else-position-lt64 c =
    let i = c.args.position in
    let f = c.self.inside.first in
    let ws = c.self.inside.later.items in
    let o = opened c.self.inside.count (f ∷ ws) c.args.self.now c.self.view_is i in
    let at : (i - 64) / 64 ≡ i / 64 - 1 = omega arith in
    let bit : i % 64 ≡ (i - 64) % 64 = omega arith in
    let words : length ws ≡ (c.self.inside.count - 1) / 64 = c.self.invariant in
    let inside : i / 64 - 1 < length ws = omega (arith, long _ _ c.args.self.now c.self.view_is) in
    let word : c.index.result.now ≡ get_or ws (i / 64 - 1) 0 = c.index.ensures ∙ get_or_default_zero ws (i / 64 - 1) c.index.result.now inside in
    let t = Has-word ws (i / 64 - 1) (i - 64) at in (
      λ yes. o.1 (omega (arith, long _ _ c.args.self.now c.self.view_is)) (Has-high f ws i (i - 64) (omega arith) (t.1 (ap (λ w. bit_at w ((i - 64) % 64)) (sym word) ∙ ap (bit_at c.index.result.now) (sym bit) ∙ c.has-else-position-lt64.ensures.0 yes))),
      λ h. c.has-else-position-lt64.ensures.1 (⊎_elim (λ p. absurd (omega (arith, p.0)))
          (λ p. let back : p.0 ≡ i - 64 = omega (arith, p.1) in
          ap (λ w. bit_at w (i % 64)) word ∙ ap (bit_at (get_or ws (i / 64 - 1) 0)) bit ∙ t.0 (subst (Has ws) back p.2)) (Has-cases f ws i (o.0 h).1)),
    )
