use Rattle.std.proofs.Common.{ℕ, false, ◌∷◌, replicate, sym, ap, ◌∙◌}
use Rattle.filterset_glob.specs.{Words.positions_of, declared.positions.GroupPositions.GroupPositions}
use Rattle.filterset_glob.proofs.PositionSets.{positions_of-none, long}
use Rattle.filterset_glob.proofs.positions.Positions.keep.Goals as goal

pub returns-clause-before : goal.returns-clause-before
returns-clause-before c =
    ap (λ (k : GroupPositions). k.before) c.in_ok-new.ensures.ok
    ∙ ap (λ ws. positions_of c.self.inside.count (c.self.inside.first ∷ ws)) (c.in_ok-to_vec.ensures.items_if_clones_equal (λ x y e. e) ∙ c.deref.ensures.value) ∙ c.self.view_is

pub returns-clause-after : goal.returns-clause-after
returns-clause-after c =
    let n = c.self.inside.count in
    ap (λ (k : GroupPositions). k.after) c.in_ok-new.ensures.ok
    ∙ ap (λ ws. positions_of n (0 ∷ ws)) c.in_ok-make_empty.ensures.none ∙ positions_of-none n _ ∙ ap (λ (k : ℕ). replicate k false) (sym (long _ _ c.args.self.now c.self.view_is))
