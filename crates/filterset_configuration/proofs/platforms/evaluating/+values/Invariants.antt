use Rattle.std.proofs.Common.{◌≡◌, drop}
use Rattle.filterset_configuration.specs.PlatformTrees.{exprs_of, facts_of}
use Rattle.filterset_configuration.specs.PlatformValues.{all_value, any_value, both, either}
use Rattle.filterset_configuration.proofs.platforms.evaluating.+values.Given as goal

-- the value so far, and that of what is left, are the value of all
abbrev pub invariant-all_value-loop-expression : goal.invariant-all_value-loop-expression
invariant-all_value-loop-expression l =
    both l.value (all_value (facts_of l.facts).settings (exprs_of (drop l.expression-index l.expressions)))
    ≡ all_value (facts_of l.facts).settings (exprs_of l.expressions)

abbrev pub invariant-any_value-loop-expression : goal.invariant-any_value-loop-expression
invariant-any_value-loop-expression l =
    either l.value (any_value (facts_of l.facts).settings (exprs_of (drop l.expression-index l.expressions)))
    ≡ any_value (facts_of l.facts).settings (exprs_of l.expressions)
