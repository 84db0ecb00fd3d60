use Rattle.std.proofs.Common.{Option, subst}
use Rattle.std.specs.Prelude.{IfNone}
use Rattle.filterset_rewriting.specs.Nesting.Depth.{depth}
use Rattle.filterset_c.specs.{Parsing.IsWithin, declared.faults.Span.Span}
use Rattle.filterset_c.proofs.Limits.{limited}
use Rattle.filterset_c.proofs.parsing.parse_within.Goals as goal

pub returns-in-None-clause-accepted : goal.returns-in-None-clause-accepted
returns-in-None-clause-accepted c =
    let workspace = c.args.workspace.now in
    limited workspace c.args.bytes.now c.in_ok-text.text.now c.args.kind c.parse_text.result c.in_ok-text.ensures.0
    (λ e spells. subst (λ (found : Option Span). IfNone found (IsWithin workspace.depth (depth e))) c.in-None.is (c.in_ok-place.ensures.within e spells))
    c.parse_text.ensures.accepted
