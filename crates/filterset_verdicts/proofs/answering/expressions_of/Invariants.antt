use Rattle.std.proofs.Common.{◌≡◌, map, take}
use Rattle.filterset_answers.specs.Picking.{compiled_of}
use Rattle.filterset_verdicts.proofs.answering.expressions_of.Given as goal

-- the expressions of the filtersets so far
abbrev pub invariant-loop-filterset : goal.invariant-loop-filterset
invariant-loop-filterset l =
    map (λ e. e.now) l.exprs.items ≡ map compiled_of (take l.filterset-index l.filtersets)
