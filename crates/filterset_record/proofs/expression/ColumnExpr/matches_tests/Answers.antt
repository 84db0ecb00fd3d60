use Rattle.std.proofs.lemmas.Result.{IfOk-weaker}
use Rattle.filterset_expression.specs.Expression.{no_groups, with_default}
use Rattle.filterset_expression.proofs.LeafAnswers.{definite_of_test, lookups_alike}
use Rattle.filterset_expression.proofs.Meanings.{compiled_means}
use Rattle.filterset_record.specs.Columns.{answer_of, default_filter_of, expr_of, names_of, test_of}
use Rattle.filterset_record.proofs.{Defaults.without_groups, ColumnLemmas.answered_alike, ColumnLemmas.some_item}
use Rattle.filterset_record.proofs.expression.ColumnExpr.matches_tests.Goals as goal

pub returns-clause-settled : goal.returns-clause-settled
returns-clause-settled g c =
    let lookup = (goal.PlacedLookup-dyn g c.args.groups.now).PlacedLookup.matches_group c.args.groups.now.1 in
    let expr = (expr_of c.args.self.now) in
    let default = default_filter_of c.args.self.now in
    let names = names_of c.args.names.now in
    IfOk-weaker c.evaluate.result _ _ (λ column answered b definite i within.
    let item = some_item names i within in
    definite_of_test expr default (test_of c.args.query.now item.0) lookup (answer_of column i) b (answered.each i item.0 item.1) definite) c.evaluate.ensures.holds

pub returns-clause-ungrouped : goal.returns-clause-ungrouped
returns-clause-ungrouped g c = λ none.
    let lookup = (goal.PlacedLookup-dyn g c.args.groups.now).PlacedLookup.matches_group c.args.groups.now.1 in
    let expr = (expr_of c.args.self.now) in
    let default = default_filter_of c.args.self.now in
    IfOk-weaker c.evaluate.result _ _ (λ column answered. answered_alike column (names_of c.args.names.now) _ _ (λ name. lookups_alike (with_default default expr) (test_of c.args.query.now name) lookup no_groups (without_groups default expr c.args.self.now.context.no_group none)) answered) c.evaluate.ensures.holds

pub returns-clause-meaning : goal.returns-clause-meaning
returns-clause-meaning g c =
    let lookup = (goal.PlacedLookup-dyn g c.args.groups.now).PlacedLookup.matches_group c.args.groups.now.1 in
    let default = default_filter_of c.args.self.now in
    IfOk-weaker c.evaluate.result _ _ (λ column answered packages e is. answered_alike column (names_of c.args.names.now) _ _ (λ name. compiled_means packages (test_of c.args.query.now name) default lookup e (expr_of c.args.self.now) is) answered) c.evaluate.ensures.holds
