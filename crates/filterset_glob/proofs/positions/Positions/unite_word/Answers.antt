use Rattle.std.proofs.Common.{◌≡◌, ◌↔◌, ◌⊎◌, List, Bool, [], ◌∷◌, length, sym, subst, arith}
use Rattle.filterset_glob.specs.{Positions.Holds, Words.positions_of}
use Rattle.filterset_glob.proofs.PositionSets.{joined_words, long, word_is}
use Rattle.filterset_glob.proofs.positions.Positions.unite_word.Goals as goal

pub returns-clause-joined : goal.returns-clause-joined
returns-clause-joined c i =
    let n = length c.args.self.now in
    let none : length c.self.inside.later.items ≡ 0 = omega (arith, c.self.invariant, long _ _ c.args.self.now c.self.view_is, c.requires) in
    let is = word_is c.self.inside.count c.self.inside.first c.self.inside.later.items c.args.self.now c.self.view_is none in
    let e = c.unite.ensures in
    subst (λ (p : List Bool). Holds (positions_of n (c.unite.result ∷ [])) i ↔ (Holds (positions_of n (c.args.word ∷ [])) i ⊎ Holds p i)) (sym is)
    (joined_words n c.unite.result c.args.word c.self.inside.first e.joined e.kept e.added i)
