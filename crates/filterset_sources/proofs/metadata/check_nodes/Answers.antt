use Rattle.std.proofs.Common.{◌≡◌, arith, inl, inr, sym, ◌∙◌}
use Rattle.std.specs.Prelude.{codes}
use Rattle.filterset_json.specs.Places.{Place}
use Rattle.filterset_sources.specs.Metadata.{IsKnown, NamesOnly, Unknown, UnknownIn, UnknownNode, link_path, links_of, node_path}
use Rattle.filterset_sources.proofs.GraphLemmas.{All-done, All-next, UnknownIn-not, first_not, not_known}
use Rattle.filterset_sources.proofs.ShapeLemmas.{Refuses-if, handed_on}
use Rattle.filterset_sources.proofs.metadata.check_nodes.Goals as goal

pub returns-then-not-is_known-clause-refused : goal.returns-then-not-is_known-clause-refused
returns-then-not-is_known-clause-refused c =
    let known = IsKnown c.args.known.now in
    let at = c.loop-at.at in
    let node = c.index-nodes-at.result in
    Refuses-if (λ (place : Place). place ≡ (node_path at, codes "the id of one of the packages")) (UnknownNode known c.args.nodes.now) c.unknown_id.result
    (λ place is.
    let wrong : UnknownIn known at node place = inl (is, not_known _ _ c.is_known.ensures c.if-not-is_known.true) in
    (at, node, first_not (NamesOnly known) c.args.nodes.now at node c.loop-at-test.true c.index-nodes-at.is c.loop-at.invariant (UnknownIn-not known at node place wrong), wrong))
    c.unknown_id.ensures

pub returns-in_err-check_dependencies-clause-refused : goal.returns-in_err-check_dependencies-clause-refused
returns-in_err-check_dependencies-clause-refused c =
    let known = IsKnown c.args.known.now in
    let at = c.loop-at.at in
    let node = c.index-nodes-at.result in
    handed_on (Unknown known (link_path at) (links_of node)) (UnknownNode known c.args.nodes.now) c.from_residual.result c.in_err-check_dependencies.field-0.0 c.from_residual.ensures.1
    (λ place unknown.
    let wrong : UnknownIn known at node place = inr (sym c.is_known.ensures ∙ c.if-not-is_known.false, unknown) in
    (at, node, first_not (NamesOnly known) c.args.nodes.now at node c.loop-at-test.true c.index-nodes-at.is c.loop-at.invariant (UnknownIn-not known at node place wrong), wrong))
    (rw c.as_slice.ensures.value at c.in_err-check_dependencies.ensures.refused)

pub loop-at-preserved : goal.loop-at-preserved
loop-at-preserved c =
    All-next (NamesOnly (IsKnown c.args.known.now)) c.args.nodes.now c.loop-at.at c.index-nodes-at.result c.loop-at-test.true c.index-nodes-at.is c.loop-at.invariant
    (sym c.is_known.ensures ∙ c.if-not-is_known.false, rw c.as_slice.ensures.value at c.in_ok-check_dependencies.ensures.ok)

pub returns-clause-ok : goal.returns-clause-ok
returns-clause-ok c = All-done (NamesOnly (IsKnown c.args.known.now)) c.args.nodes.now c.loop-at.at (omega (arith, c.loop-at-test.false)) c.loop-at.invariant
