use Rattle.std.proofs.Common.{◌≡◌, map}
use Rattle.filterset_answers.specs.Picking.{compiled_of}
use Rattle.filterset_answers.proofs.picks.expressions_of.Given as goal

-- the expressions of the filtersets so far were taken
abbrev pub invariant-loop-filterset : goal.invariant-loop-filterset
invariant-loop-filterset l = l.exprs.items ≡ map compiled_of l.yielded
