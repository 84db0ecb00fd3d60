use Rattle.std.proofs.{Common.◌≡◌, Common.◌↔◌, Common.Bool, Common.Some, Common.None, lemmas.Result.IfOk-weaker}
use Rattle.filterset_expression.specs.{Contexts.default_of, Expression.IsDefinite, Expression.IsUndecided}
use Rattle.filterset_expression.proofs.expression.CompiledExpr.matches_binary.Goals as goal

pub returns-clause-definite : goal.returns-clause-definite
returns-clause-definite c =
    let expr = c.args.self.now in
    let default = default_of c.args.cx.now in
    IfOk-weaker c.matches_binary.result _ (λ answer. (b : Bool) → (answer ≡ Some b) ↔ IsDefinite expr c.args.query.now default b) (λ answer h. h expr default c.in_ok-new.ensures.flat) c.matches_binary.ensures.definite

pub returns-clause-undecided : goal.returns-clause-undecided
returns-clause-undecided c =
    let expr = c.args.self.now in
    let default = default_of c.args.cx.now in
    IfOk-weaker c.matches_binary.result _ (λ answer. (answer ≡ None) ↔ IsUndecided expr c.args.query.now default) (λ answer h. h expr default c.in_ok-new.ensures.flat) c.matches_binary.ensures.undecided
