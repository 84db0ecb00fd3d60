use Rattle.std.proofs.Common.{rules, arith, ◌≡◌, ℕ, List, Some, refl, subst}
use Rattle.serde_json.specs.{Read.read, View.view}
use Rattle.filterset_record.specs.Rows.{record_row}
use Rattle.filterset_c.proofs.Records.{packages_are_no_graph}
use Rattle.filterset_c.proofs.workspaces.workspace_of_record.Goals as goal

pub returns-clause-made : goal.returns-clause-made
returns-clause-made c = record {
  value = view c.in_ok-value.value;
  is_json = subst (λ (text : List ℕ). read text ≡ Some (view c.in_ok-value.value)) c.in_ok-text.ensures.0 c.in_ok-value.ensures.value;
  row = record_row c.in_ok-made.made;
  is_record = c.in_ok-made.ensures.record;
  packages = c.in_ok-graph.ensures.graph;
  groups = c.in_ok-known_groups.ensures.groups;
  default = refl;
  depth = refl;
}

pub returns-in_err-graph-clause-rejected : goal.returns-in_err-graph-clause-rejected
returns-in_err-graph-clause-rejected c =
    let why = packages_are_no_graph c.in_ok-text.text.now c.args.bytes.now (view c.in_ok-value.value) (record_row c.in_ok-made.made) c.in_ok-text.ensures.0 c.in_ok-value.ensures.value c.in_ok-made.ensures.record in
    first_of (search (rules, why, c.in_err-graph.ensures.rejected, c.from_residual-in_err-graph.ensures), grind (arith, why, c.in_err-graph.ensures.rejected, c.from_residual-in_err-graph.ensures))
