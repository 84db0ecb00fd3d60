use Rattle.std.proofs.{Common.◌≡◌, Common.◌↔◌, Common.Bool, lemmas.Result.IfOk-weaker}
use Rattle.std.specs.Bool.{IsTrue}
use Rattle.filterset_expression.specs.Contexts.{default_of}
use Rattle.filterset_expression.specs.Expression.{no_groups, Holds, IsDefinite}
use Rattle.filterset_expression.proofs.FlatSteps.{no_group_step}
use Rattle.filterset_expression.proofs.expression.CompiledExpr.matches_test_with_groups.Goals as goal

pub returns-clause-holds : goal.returns-clause-holds
returns-clause-holds g c =
    let lookup = (goal.GroupLookup-dyn g c.args.groups.now).GroupLookup.matches_group c.args.groups.now.1 in
    let expr = c.args.self.now in
    let default = default_of c.args.cx.now in
    IfOk-weaker c.matches_test_with_groups.result _ (λ answer. (IsTrue answer ↔ (Holds expr c.args.query.now default lookup))) (λ answer h. h expr default c.in_ok-new.ensures.flat) c.matches_test_with_groups.ensures.holds

pub returns-clause-settled : goal.returns-clause-settled
returns-clause-settled g c =
    let expr = c.args.self.now in
    let default = default_of c.args.cx.now in
    IfOk-weaker c.matches_test_with_groups.result _ (λ answer. (b : Bool) → IsDefinite expr c.args.query.now.binary_query default b → answer ≡ b) (λ answer h. h expr default c.in_ok-new.ensures.flat) c.matches_test_with_groups.ensures.settled

pub returns-clause-ungrouped : goal.returns-clause-ungrouped
returns-clause-ungrouped g c = λ none.
    let expr = c.args.self.now in
    let default = default_of c.args.cx.now in
    let no_step = no_group_step c.in_ok-new.field-0.steps.items expr default c.in_ok-new.ensures.flat none c.args.cx.now.no_group in
    IfOk-weaker c.matches_test_with_groups.result _ (λ answer. (IsTrue answer ↔ (Holds expr c.args.query.now default no_groups))) (λ answer h. h expr default c.in_ok-new.ensures.flat) (c.matches_test_with_groups.ensures.ungrouped no_step)
