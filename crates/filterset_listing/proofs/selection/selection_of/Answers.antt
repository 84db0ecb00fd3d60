use Rattle.std.proofs.Common.{rules, ◌≡◌}
use Rattle.filterset_expression.specs.declared.logic.Connective.TheVariants.{Conjunction}
use Rattle.filterset_expression.specs.{Expression.Default, Expression.formula, Formula.Compound, Formula.Leaf}
use Rattle.filterset_listing.proofs.SelectionLemmas.{IsSelection-ignoring, IsSelection-within, selection_means}
use Rattle.filterset_listing.proofs.selection.selection_of.Goals as goal

pub returns-then-ignores_default-clause-picks : goal.returns-then-ignores_default-clause-picks
returns-then-ignores_default-clause-picks c =
    let value : c.into_inner.result ≡ c.in_ok-union.union.value = search rules in
    rw value (IsSelection-ignoring c.args.ignores_default c.args.exprs.items c.in_ok-union.union.value c.if-ignores_default.true c.in_ok-union.ensures)

pub returns-then-ignores_default-clause-meaning : goal.returns-then-ignores_default-clause-meaning
returns-then-ignores_default-clause-meaning c =
    let value : c.into_inner.result ≡ c.in_ok-union.union.value = search rules in
    rw value (selection_means _ _ _ (IsSelection-ignoring c.args.ignores_default c.args.exprs.items c.in_ok-union.union.value c.if-ignores_default.true c.in_ok-union.ensures))

pub returns-clause-picks : goal.returns-clause-picks
returns-clause-picks c =
    let value : c.into_inner-2.result ≡ c.in_ok-within.within.value = search rules in
    let made : formula c.in_ok-within.within.value ≡ Compound Conjunction (Leaf Default) (formula c.in_ok-union.union.value) = search rules in
    rw value (IsSelection-within c.args.ignores_default c.args.exprs.items c.in_ok-union.union.value c.in_ok-within.within.value c.if-ignores_default.false c.in_ok-union.ensures made)

pub returns-clause-meaning : goal.returns-clause-meaning
returns-clause-meaning c =
    let value : c.into_inner-2.result ≡ c.in_ok-within.within.value = search rules in
    let made : formula c.in_ok-within.within.value ≡ Compound Conjunction (Leaf Default) (formula c.in_ok-union.union.value) = search rules in
    rw value (selection_means _ _ _ (IsSelection-within c.args.ignores_default c.args.exprs.items c.in_ok-union.union.value c.in_ok-within.within.value c.if-ignores_default.false c.in_ok-union.ensures made))
