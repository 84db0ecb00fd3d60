use Rattle.std.proofs.Common.{◌≡◌, ℕ, ◌-◌, ◌/◌, ◌<◌, ◌⊎◌, inl, inr, ◌∷◌, length, ap, sym, subst, ◌∙◌, arith, ⊎_elim}
use Rattle.std.specs.Vec.{with_items}
use Rattle.std.proofs.lemmas.List.{with_items_is}
use Rattle.filterset_glob.specs.Words.{Has}
use Rattle.filterset_glob.proofs.PositionSets.{opened, made, long, length-positions_of, Has-low, Has-high, Has-cases}
use Rattle.filterset_glob.proofs.positions.Positions.join.Goals as goal

pub join-requires : goal.join-requires
join-requires c =
    let same : c.self.inside.count ≡ c.other.inside.count = omega (arith, long _ _ c.args.self.now c.self.view_is, long _ _ c.args.other.now c.other.view_is) in
    let first : length c.self.inside.later.items ≡ (c.self.inside.count - 1) / 64 = c.self.invariant in
    let second : length c.other.inside.later.items ≡ (c.other.inside.count - 1) / 64 = c.other.invariant in
    omega (arith, ap length c.deref_mut.ensures.value, ap length c.deref.ensures.value)

pub returns-clause-length : goal.returns-clause-length
returns-clause-length c = length-positions_of _ _ ∙ sym (long _ _ c.args.self.now c.self.view_is)

pub returns-clause-joined : goal.returns-clause-joined
returns-clause-joined c i =
    let n = c.self.inside.count in
    let f = c.self.inside.first in
    let ws = c.self.inside.later.items in
    let g = c.other.inside.first in
    let vs = c.other.inside.later.items in
    let r = c.unite-self-inside.result in
    let us = c.join.new.words in
    let e = c.unite-self-inside.ensures in
    let joined = λ (k : ℕ) (x : Has us k).
    let y : Has ws k ⊎ Has vs k = ⊎_elim (λ a. inl (subst (λ l. Has l k) c.deref_mut.ensures.value a)) (λ a. inr (subst (λ l. Has l k) c.deref.ensures.value a)) (c.join.ensures.joined k x) in y in
    let kept = rw c.deref_mut.ensures.value at c.join.ensures.kept in
    let added = rw c.deref.ensures.value at c.join.ensures.added in
    let new : (with_items c.self.inside.later us).items ≡ us = with_items_is c.self.inside.later us (c.join.ensures.length ∙ ap length c.deref_mut.ensures.value ∙ sym c.self.inside.later.ok.0) in
    let o = opened n (f ∷ ws) c.args.self.now c.self.view_is i in
    let p = opened c.other.inside.count (g ∷ vs) c.args.other.now c.other.view_is i in
    let m = made n r us _ new i in
    let same : n ≡ c.other.inside.count = omega (arith, long _ _ c.args.self.now c.self.view_is, long _ _ c.args.other.now c.other.view_is) in (
      λ h.
          let z = m.0 h in
          let there : i < c.other.inside.count = omega (arith, z.0) in
          ⊎_elim (λ a. ⊎_elim (λ b. inl (o.1 z.0 (Has-low f ws i a.0 b))) (λ b. inr (p.1 there (Has-low g vs i a.0 b))) (e.joined i a.1))
          (λ a. ⊎_elim (λ b. inl (o.1 z.0 (Has-high f ws i a.0 a.1 b))) (λ b. inr (p.1 there (Has-high g vs i a.0 a.1 b))) (joined a.0 a.2)) (Has-cases r us i z.1),
      λ h. ⊎_elim (λ a.
          let z = o.0 a in
          m.1 z.0 (⊎_elim (λ b. Has-low r us i b.0 (e.kept i b.1)) (λ b. Has-high r us i b.0 b.1 (kept b.0 b.2)) (Has-cases f ws i z.1)))
          (λ a.
          let z = p.0 a in
          m.1 (omega (arith, z.0)) (⊎_elim (λ b. Has-low r us i b.0 (e.added i b.1)) (λ b. Has-high r us i b.0 b.1 (added b.0 b.2)) (Has-cases g vs i z.1))) h,
    )
