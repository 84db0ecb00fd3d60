use Rattle.std.proofs.Common.{◌≡◌, ℕ, List, Some, refl, subst}
use Rattle.serde_json.specs.{Read.read, View.view}
use Rattle.filterset_c.proofs.workspaces.workspace_of_metadata.Goals as goal

pub returns-clause-made : goal.returns-clause-made
returns-clause-made c = record {
  value = view c.in_ok-value.value;
  is_json = subst (λ (text : List ℕ). read text ≡ Some (view c.in_ok-value.value)) c.in_ok-text.ensures.0 c.in_ok-value.ensures.value;
  packages = c.in_ok-graph.ensures.graph;
  groups = c.global_only-known_groups.ensures.global;
  default = refl;
  depth = refl;
}
