use Rattle.std.proofs.Common.{string_bytes, take}
use Rattle.std.specs.List.{AllZip}
use Rattle.filterset_expression.specs.Contexts.{default_of}
use Rattle.filterset_answers.specs.Overriding.{IsReasonFor}
use Rattle.filterset_answers.proofs.overriding.reasons_of.Given as goal

-- the filters so far were explained
abbrev pub invariant-loop-made : goal.invariant-loop-made
invariant-loop-made l =
    AllZip (λ made reason. IsReasonFor l.query l.setting (default_of l.context) made (string_bytes reason)) (take l.made-index l.filters) l.reasons.items
