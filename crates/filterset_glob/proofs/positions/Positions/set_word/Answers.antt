use Rattle.std.proofs.Common.{◌≡◌, ℕ, [], ◌∷◌, length, ap, sym, ◌∙◌, arith}
use Rattle.filterset_glob.specs.Words.{positions_of}
use Rattle.filterset_glob.proofs.PositionSets.{length-positions_of, long, no_words}
use Rattle.filterset_glob.proofs.positions.Positions.set_word.Goals as goal

pub returns-clause-length : goal.returns-clause-length
returns-clause-length c = length-positions_of _ _ ∙ sym (long _ _ c.args.self.now c.self.view_is)

pub returns-clause-word : goal.returns-clause-word
returns-clause-word c =
    let count : length c.args.self.now ≡ c.self.inside.count = long _ _ c.args.self.now c.self.view_is in
    let none : length c.self.inside.later.items ≡ 0 = omega (arith, c.self.invariant, count, c.requires) in
    ap (λ ws. positions_of c.self.inside.count (c.args.word ∷ ws)) (no_words c.self.inside.later.items none) ∙ ap (λ (k : ℕ). positions_of k (c.args.word ∷ [])) (sym count)
