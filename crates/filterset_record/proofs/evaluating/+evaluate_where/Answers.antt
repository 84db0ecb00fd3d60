use Rattle.std.proofs.Common.{arith, ◌≡◌, ◌<◌, ◌∙◌, List, ap, length, subst, sym}
use Rattle.filterset_expression.specs.Expression.{CompiledLeaf, HoldsOfTest, Lookup, compiled_leaf, formula, leaf_with_default}
use Rattle.filterset_expression.specs.Formula.{Compound, Formula, Leaf, TrueWhere, leaves, replaced}
use Rattle.filterset_expression.specs.Formula as formulas
use Rattle.filterset_record.specs.{Columns.names_of, Columns.test_of, Columns.AnsweredWhere, Operators.applied}
use Rattle.filterset_record.specs.declared.operators.Operator.{Operator, TheVariants.Negation, TheVariants.Binary}
use Rattle.filterset_record.proofs.ColumnLemmas.{all_negated, both_combined}
use Rattle.filterset_record.proofs.OperatorLemmas.{none_left, popped, right_below}
use Rattle.filterset_record.specs.contracts.evaluating.evaluate_where as clauses
use Rattle.filterset_record.specs.contracts.evaluating.evaluate_where.dyn-1 as dyn
use Rattle.filterset_record.proofs.evaluating.+evaluate_where.Goals as goal

pub loop-operator-init : goal.loop-operator-init
loop-operator-init g t c = record {
  below = Leaf (compiled_leaf c.in_ok-leaf.leaf.now);
  whole = c.in_ok-leaf.ensures ∙ ap (λ (ops : List Operator). applied ops (formula c.args.expr.now)) c.take_operators-operators.ensures;
  answered = c.in_ok-column.ensures;
}

pub narrow-requires : goal.narrow-requires
narrow-requires g t c = c.requires.wanted ∙ sym c.loop-operator.invariant.answered.counted

pub evaluate_where-requires : goal.evaluate_where-requires
evaluate_where-requires g t c =
    let before = c.loop-operator.invariant in
    let below = right_below c.pop.new.self.items c.in-Binary.connective c.in-Binary.right before.below (formula c.args.expr.now) (popped c.loop-operator.operators.items c.pop.new.self.items (Binary c.in-Binary.connective c.in-Binary.right) c.in-Some.operator before.below (formula c.args.expr.now) c.in-Some.ensures.items c.in-Binary.is before.whole) in
    let less : length (leaves (formula c.in-Binary.right.now)) < t = omega (arith, c.decreases, below) in
    (less, (c.requires.default, c.in_ok-narrowed-in-Binary.ensures.len ∙ c.requires.wanted))

pub combined-requires : goal.combined-requires
combined-requires g t c = c.loop-operator.invariant.answered.counted ∙ sym c.in_ok-other-in-Binary.ensures.counted

pub loop-operator-preserved-in-Negation : goal.loop-operator-preserved-in-Negation
loop-operator-preserved-in-Negation g t c =
    let before = c.loop-operator.invariant in
    record {
      below = formulas.Negation before.below;
      whole = popped c.loop-operator.operators.items c.pop.new.self.items Negation c.in-Some.operator before.below (formula c.args.expr.now) c.in-Some.ensures.items c.in-Negation.is before.whole;
      answered = all_negated c.args.wanted.now c.loop-operator.column c.negated.result (names_of c.args.tests.now.names.now) _ c.negated.ensures.len c.negated.ensures.negated before.answered;
    }

pub loop-operator-preserved : goal.loop-operator-preserved
loop-operator-preserved g t c =
    let before = c.loop-operator.invariant in
    record {
      below = Compound c.in-Binary.connective before.below (formula c.in-Binary.right.now);
      whole = popped c.loop-operator.operators.items c.pop.new.self.items (Binary c.in-Binary.connective c.in-Binary.right) c.in-Some.operator before.below (formula c.args.expr.now) c.in-Some.ensures.items c.in-Binary.is before.whole;
      answered = both_combined c.in-Binary.connective c.args.wanted.now c.in_ok-narrowed-in-Binary.narrowed c.loop-operator.column c.in_ok-other-in-Binary.other c.combined.result (names_of c.args.tests.now.names.now) _ _ c.combined.ensures.len c.combined.ensures.combined c.requires.wanted c.in_ok-narrowed-in-Binary.ensures.least before.answered c.in_ok-other-in-Binary.ensures;
    }

pub returns : goal.returns
returns g t c =
    let lookup : Lookup = (dyn.members (clauses.dyn-1-ghosts g.dyn-1) c.args.groups.now).PlacedLookup.matches_group c.args.groups.now.1 in
    let before = c.loop-operator.invariant in
    let same : before.below ≡ formula c.args.expr.now = none_left c.loop-operator.operators.items before.below (formula c.args.expr.now) (omega (arith, c.in_default.ensures.cases.0, c.loop-operator.operators.ok.0)) before.whole in
    subst (λ (f : Formula CompiledLeaf). AnsweredWhere c.args.wanted.now c.loop-operator.column (names_of c.args.tests.now.names.now) (λ name. TrueWhere (HoldsOfTest (test_of c.args.tests.now.query.now name) lookup) (replaced (leaf_with_default c.args.tests.now.filter.now) f))) same before.answered
