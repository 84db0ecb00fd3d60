use Rattle.std.proofs.{Common.◌≡◌, Common.◌↔◌, Common.Bool, lemmas.Result.IfOk-weaker}
use Rattle.std.specs.Bool.{IsTrue}
use Rattle.filterset_expression.specs.Contexts.{default_of}
use Rattle.filterset_expression.specs.Expression.{no_groups, Holds, IsDefinite}
use Rattle.filterset_expression.proofs.FlatSteps.{no_group_step}
use Rattle.filterset_expression.proofs.expression.CompiledExpr.matches_test.Goals as goal

pub matches_test-requires : goal.matches_test-requires
matches_test-requires c =
    no_group_step c.in_ok-new.field-0.steps.items c.args.self.now (default_of c.args.cx.now) c.in_ok-new.ensures.flat c.requires c.args.cx.now.no_group

pub returns-clause-holds : goal.returns-clause-holds
returns-clause-holds c =
    let expr = c.args.self.now in
    let default = default_of c.args.cx.now in
    IfOk-weaker c.matches_test.result _ (λ answer. (IsTrue answer ↔ (Holds expr c.args.query.now default no_groups))) (λ answer h. h expr default c.in_ok-new.ensures.flat) c.matches_test.ensures.holds

pub returns-clause-settled : goal.returns-clause-settled
returns-clause-settled c =
    let expr = c.args.self.now in
    let default = default_of c.args.cx.now in
    IfOk-weaker c.matches_test.result _ (λ answer. (b : Bool) → IsDefinite expr c.args.query.now.binary_query default b → answer ≡ b) (λ answer h. h expr default c.in_ok-new.ensures.flat) c.matches_test.ensures.settled
