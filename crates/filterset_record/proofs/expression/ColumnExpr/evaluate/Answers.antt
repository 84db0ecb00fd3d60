use Rattle.std.proofs.Common.{◌≡◌, ◌∙◌, sym, subst, false, IfOk}
use Rattle.filterset_record.proofs.Defaults.{without_default}
use Rattle.filterset_record.specs.Columns.{default_filter_of, expr_of, names_of, test_of, Answered}
use Rattle.filterset_expression.specs.Expression.{has_leaf, is_default, with_default, HoldsOfTest}
use Rattle.filterset_expression.specs.{Formula.TrueWhere, declared.expression.CompiledExpr.CompiledExpr}
use Rattle.filterset_record.proofs.expression.ColumnExpr.evaluate.Goals as goal

pub returns-then-not-self-clause-holds : goal.returns-then-not-self-clause-holds
returns-then-not-self-clause-holds g c =
    let none : has_leaf is_default (expr_of c.args.self.now) ≡ false = sym c.args.self.now.defaults_known ∙ c.if-not-self.true in
    rw (without_default (default_filter_of c.args.self.now) (expr_of c.args.self.now) none) c.evaluate_itself.ensures

pub returns-clause-holds : goal.returns-clause-holds
returns-clause-holds g c =
    let lookup = (goal.PlacedLookup-dyn g c.args.groups.now).PlacedLookup.matches_group c.args.groups.now.1 in
    subst (λ (default : CompiledExpr). IfOk c.evaluate.result (λ column. Answered column (names_of c.args.names.now) (λ name. TrueWhere (HoldsOfTest (test_of c.args.query.now name) lookup) (with_default default (expr_of c.args.self.now))))) c.default_filter-filter.ensures.same c.evaluate.ensures
