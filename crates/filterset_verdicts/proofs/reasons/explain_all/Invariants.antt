use Rattle.std.proofs.Common.{string_bytes, take}
use Rattle.std.specs.List.{AllZip}
use Rattle.filterset_expression.specs.Contexts.{default_of}
use Rattle.filterset_verdicts.specs.Reasons.{IsReasonOf}
use Rattle.filterset_verdicts.proofs.reasons.explain_all.Given as goal

-- the reasons of the filtersets so far
abbrev pub invariant-loop-filterset : goal.invariant-loop-filterset
invariant-loop-filterset l =
    AllZip (λ f text. IsReasonOf l.graph (default_of l.context) l.query l.group f (string_bytes text)) (take l.filterset-index l.filtersets) l.texts.items
