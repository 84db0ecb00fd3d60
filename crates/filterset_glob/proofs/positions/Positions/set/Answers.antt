use Rattle.std.proofs.Common.{◌≡◌, ℕ, ◌-◌, ◌/◌, ◌∷◌, length, ap, ◌∙◌, arith}
use Rattle.filterset_glob.specs.Words.{positions_of}
use Rattle.filterset_glob.proofs.PositionSets.{long}
use Rattle.filterset_glob.proofs.positions.Positions.set.Goals as goal

pub copy_from_slice-requires : goal.copy_from_slice-requires
copy_from_slice-requires c =
    let here : length c.self.inside.later.items ≡ (c.self.inside.count - 1) / 64 = c.self.invariant in
    let there : length c.other.inside.later.items ≡ (c.other.inside.count - 1) / 64 = c.other.invariant in
    let same : c.self.inside.count ≡ c.other.inside.count = omega (arith, long _ _ c.args.self.now c.self.view_is, long _ _ c.args.other.now c.other.view_is, c.requires) in
    omega (arith, c.self.inside.later.ok.0, here, there, ap (λ n. (n - 1) / 64) same, ap length c.deref.ensures.value)

pub returns-clause-same : goal.returns-clause-same
returns-clause-same c =
    let same : c.self.inside.count ≡ c.other.inside.count = omega (arith, long _ _ c.args.self.now c.self.view_is, long _ _ c.args.other.now c.other.view_is, c.requires) in
    ap (λ (n : ℕ). positions_of n (c.other.inside.first ∷ c.copy_from_slice.new.self.items)) same
    ∙ ap (λ ws. positions_of c.other.inside.count (c.other.inside.first ∷ ws)) (c.copy_from_slice.ensures.items ∙ c.deref.ensures.value)
    ∙ c.other.view_is
