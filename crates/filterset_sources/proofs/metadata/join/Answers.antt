use Rattle.std.proofs.Common.{◌++◌, [], inl, inr, subst, sym}
use Rattle.std.proofs.lemmas.Result.{IfOk-weaker}
use Rattle.std.specs.Prelude.{Contains, codes}
use Rattle.filterset_graph.specs.Packages.{ids}
use Rattle.filterset_graph.proofs.Rows.{PositionsAre-AllDiffer}
use Rattle.filterset_json.specs.Places.{Place}
use Rattle.filterset_sources.specs.Metadata.{IsGraphOf, IsKnown, IsWhole, Repeats, Unknown, UnknownNode, WrongWhole, node_ids, node_path}
use Rattle.filterset_sources.specs.Shape.{item_path}
use Rattle.filterset_sources.proofs.GraphLemmas.{Contains-IsKnown, IsKnown-Contains, Repeats-items, Unknown-if, UnknownNode-if, linked-graph, members-Contained, nodes-Contained, whole-graph}
use Rattle.filterset_sources.proofs.ShapeLemmas.{Refused-if, handed_on}
use Rattle.filterset_sources.proofs.metadata.join.Goals as goal

pub returns-in_err-known-clause-refused : goal.returns-in_err-known-clause-refused
returns-in_err-known-clause-refused c =
    let names = ids c.args.parts.packages.items in
    handed_on (Repeats (λ at. item_path (codes "packages") at ++ codes ".id") names) (WrongWhole (ids c.args.parts.packages.items) c.args.parts.members.items c.args.parts.resolve.nodes.items) c.from_residual-in_err-known.result c.in_err-known.field-0.0 c.from_residual-in_err-known.ensures.1 (λ place wrong. inl wrong)
    (rw (c.as_slice-2.ensures.value, c.in_ok-ids.ensures, c.as_slice.ensures.value) at c.in_err-known.ensures.refused)

pub returns-in_err-check_members-clause-refused : goal.returns-in_err-check_members-clause-refused
returns-in_err-check_members-clause-refused c =
    let names = ids c.args.parts.packages.items in
    let members = c.args.parts.members.items in
    let known = c.in_ok-known.known in
    let placed = rw (c.as_slice-2.ensures.value, c.in_ok-ids.ensures, c.as_slice.ensures.value) at c.in_ok-known.ensures.ok in
    handed_on (Unknown (IsKnown known) (item_path (codes "workspace_members")) members) (WrongWhole (ids c.args.parts.packages.items) c.args.parts.members.items c.args.parts.resolve.nodes.items) c.from_residual-in_err-check_members.result c.in_err-check_members.field-0.0 c.from_residual-in_err-check_members.ensures.1
    (λ place wrong. inr (
      PositionsAre-AllDiffer known names placed,
      inl (Unknown-if (IsKnown known) (Contains names) (item_path (codes "workspace_members")) members place (λ id. IsKnown-Contains known names id placed) (λ id. Contains-IsKnown known names id placed) wrong),
    ))
    (rw c.as_slice-3.ensures.value at c.in_err-check_members.ensures.refused)

pub returns-in_err-check_nodes-clause-refused : goal.returns-in_err-check_nodes-clause-refused
returns-in_err-check_nodes-clause-refused c =
    let names = ids c.args.parts.packages.items in
    let members = c.args.parts.members.items in
    let nodes = c.args.parts.resolve.nodes.items in
    let known = c.in_ok-known.known in
    let placed = rw (c.as_slice-2.ensures.value, c.in_ok-ids.ensures, c.as_slice.ensures.value) at c.in_ok-known.ensures.ok in
    handed_on (UnknownNode (IsKnown known) nodes) (WrongWhole (ids c.args.parts.packages.items) c.args.parts.members.items c.args.parts.resolve.nodes.items) c.from_residual-in_err-check_nodes.result c.in_err-check_nodes.field-0.0 c.from_residual-in_err-check_nodes.ensures.1
    (λ place wrong. inr (
      PositionsAre-AllDiffer known names placed,
      inr (
        members-Contained known names members placed (rw c.as_slice-3.ensures.value at c.in_ok-check_members.ensures.ok),
        inl (UnknownNode-if (IsKnown known) (Contains names) nodes place (λ id. IsKnown-Contains known names id placed) (λ id. Contains-IsKnown known names id placed) wrong),
      ),
    ))
    (rw c.as_slice-nodes.ensures.value at c.in_err-check_nodes.ensures.refused)

pub returns-in_err-members-clause-refused : goal.returns-in_err-members-clause-refused
returns-in_err-members-clause-refused c =
    let names = ids c.args.parts.packages.items in
    let members = c.args.parts.members.items in
    let nodes = c.args.parts.resolve.nodes.items in
    let known = c.in_ok-known.known in
    let placed = rw (c.as_slice-2.ensures.value, c.in_ok-ids.ensures, c.as_slice.ensures.value) at c.in_ok-known.ensures.ok in
    handed_on (Repeats (λ at. item_path (codes "workspace_members") at ++ []) members) (WrongWhole (ids c.args.parts.packages.items) c.args.parts.members.items c.args.parts.resolve.nodes.items) c.from_residual-in_err-members.result c.in_err-members.field-0.0 c.from_residual-in_err-members.ensures.1
    (λ place wrong. inr (
      PositionsAre-AllDiffer known names placed,
      inr (
        members-Contained known names members placed (rw c.as_slice-3.ensures.value at c.in_ok-check_members.ensures.ok),
        inr (
          nodes-Contained known names nodes placed (rw c.as_slice-nodes.ensures.value at c.in_ok-check_nodes.ensures.ok),
          inl (Repeats-items (codes "workspace_members") members place wrong),
        ),
      ),
    ))
    (rw c.as_slice-4.ensures.value at c.in_err-members.ensures.refused)

pub returns-in_err-positions-clause-refused : goal.returns-in_err-positions-clause-refused
returns-in_err-positions-clause-refused c =
    let names = ids c.args.parts.packages.items in
    let members = c.args.parts.members.items in
    let nodes = c.args.parts.resolve.nodes.items in
    let known = c.in_ok-known.known in
    let placed = rw (c.as_slice-2.ensures.value, c.in_ok-ids.ensures, c.as_slice.ensures.value) at c.in_ok-known.ensures.ok in
    handed_on (Repeats node_path (node_ids nodes)) (WrongWhole (ids c.args.parts.packages.items) c.args.parts.members.items c.args.parts.resolve.nodes.items) c.from_residual-in_err-positions.result c.in_err-positions.field-0.0 c.from_residual-in_err-positions.ensures.1
    (λ place wrong. inr (
      PositionsAre-AllDiffer known names placed,
      inr (
        members-Contained known names members placed (rw c.as_slice-3.ensures.value at c.in_ok-check_members.ensures.ok),
        inr (
          nodes-Contained known names nodes placed (rw c.as_slice-nodes.ensures.value at c.in_ok-check_nodes.ensures.ok),
          inr (
            PositionsAre-AllDiffer c.in_ok-members.members members (rw c.as_slice-4.ensures.value at c.in_ok-members.ensures.ok),
            inl wrong,
          ),
        ),
      ),
    ))
    (rw (c.as_slice-5.ensures.value, c.in_ok-ids-2.ensures, c.as_slice-nodes.ensures.value) at c.in_err-positions.ensures.refused)

pub returns : goal.returns
returns c =
    let parts = c.args.parts in
    let names = ids parts.packages.items in
    let placed = rw (c.as_slice-2.ensures.value, c.in_ok-ids.ensures, c.as_slice.ensures.value) at c.in_ok-known.ensures.ok in
    let members = rw c.as_slice-4.ensures.value at c.in_ok-members.ensures.ok in
    let nodes = rw (c.as_slice-5.ensures.value, c.in_ok-ids-2.ensures, c.as_slice-nodes.ensures.value) at c.in_ok-positions.ensures.ok in
    let whole : IsWhole parts = (
      PositionsAre-AllDiffer c.in_ok-known.known names placed,
      PositionsAre-AllDiffer c.in_ok-members.members parts.members.items members,
      PositionsAre-AllDiffer c.in_ok-positions.positions _ nodes,
      members-Contained c.in_ok-known.known names parts.members.items placed (rw c.as_slice-3.ensures.value at c.in_ok-check_members.ensures.ok),
      nodes-Contained c.in_ok-known.known names parts.resolve.nodes.items placed (rw c.as_slice-nodes.ensures.value at c.in_ok-check_nodes.ensures.ok),
    ) in
    let graph = linked-graph c.in_ok-members.members parts c.in_ok-packages.packages.items members (rw c.as_slice-nodes.ensures.value at c.in_ok-packages.ensures) in
    let linked = whole-graph parts c.in_ok-packages.packages.items whole graph in
    record {
      ok = IfOk-weaker c.graph_of.result _ _ (λ g are. (whole, subst (IsGraphOf parts) (sym are) graph)) c.graph_of.ensures.ok;
      refused = Refused-if (λ (place : Place). ⊥) (WrongWhole (ids parts.packages.items) parts.members.items parts.resolve.nodes.items) c.graph_of.result (λ place none. absurd none) (c.graph_of.ensures.refused linked.0 linked.1);
    }
