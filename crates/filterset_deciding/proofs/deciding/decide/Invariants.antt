use Rattle.std.proofs.Common.{◌≡◌, ◌∷◌, map, take}
use Rattle.filterset_expression.specs.{Contexts.default_of, Expression.with_default, FlatSteps.steps_of}
use Rattle.filterset_deciding.specs.Searching.{all_steps}
use Rattle.filterset_deciding.proofs.deciding.decide.Given as goal

abbrev pub invariant-loop-expr : goal.invariant-loop-expr
invariant-loop-expr l =
    steps_of l.steps.items ≡ all_steps (with_default (default_of l.cx) l.given ∷ map (λ e. with_default (default_of l.cx) e.now) (take l.expr-index l.exprs))
