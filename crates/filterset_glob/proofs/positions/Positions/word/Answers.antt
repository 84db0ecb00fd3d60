use Rattle.std.proofs.Common.{◌≡◌, length, sym, ◌∙◌, arith, eqb-true}
use Rattle.std.proofs.lemmas.Bool.{eqb-false}
use Rattle.filterset_glob.proofs.PositionSets.{long, word_is}
use Rattle.filterset_glob.proofs.positions.Positions.word.Goals as goal

pub returns-then-is_empty-clause-short : goal.returns-then-is_empty-clause-short
returns-then-is_empty-clause-short c =
    let none : length c.self.inside.later.items ≡ 0 = sym c.self.inside.later.ok.0 ∙ eqb-true _ 0 (sym c.is_empty.ensures ∙ c.if-is_empty.true) in
    omega (arith, none, c.self.invariant, long _ _ c.args.self.now c.self.view_is)

pub returns-then-is_empty-clause-word : goal.returns-then-is_empty-clause-word
returns-then-is_empty-clause-word c =
    let none : length c.self.inside.later.items ≡ 0 = sym c.self.inside.later.ok.0 ∙ eqb-true _ 0 (sym c.is_empty.ensures ∙ c.if-is_empty.true) in
    word_is c.self.inside.count c.self.inside.first c.self.inside.later.items c.args.self.now c.self.view_is none

pub returns-else-is_empty-clause-long : goal.returns-else-is_empty-clause-long
returns-else-is_empty-clause-long c =
    omega (arith, eqb-false _ 0 (sym c.is_empty.ensures ∙ c.if-is_empty.false), c.self.inside.later.ok.0, c.self.invariant, long _ _ c.args.self.now c.self.view_is)
