use Rattle.std.proofs.Common.{◌≡◌, map, take}
use Rattle.filterset_expression.specs.Expression.{formula}
use Rattle.filterset_answers.specs.Picking.{compiled_of}
use Rattle.filterset_answers.proofs.picks.copy_expressions.Given as goal

-- the expressions of the filtersets so far were copied
abbrev pub invariant-loop-filterset : goal.invariant-loop-filterset
invariant-loop-filterset l = map formula l.exprs.items ≡ map formula (map compiled_of (take l.filterset-index l.filtersets))
