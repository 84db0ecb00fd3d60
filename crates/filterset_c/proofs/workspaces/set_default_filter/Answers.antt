use Rattle.std.proofs.Common.{List, Some, ap, refl, ℕ}
use Rattle.filterset_c.proofs.workspaces.set_default_filter.Goals as goal

pub returns-in-Ok-clause-set : goal.returns-in-Ok-clause-set
returns-in-Ok-clause-set c =
    let accepted = rw c.in-Ok.is at c.in_ok-filter-in-Workspace.ensures.accepted in
    rw c.in-Workspace.is (record {
      filter = (c.in-Ok.filter, accepted);
      kept = ap (λ (text : List ℕ). Some text) accepted.0.input;
      packages = refl;
      groups = refl;
      depth = refl;
    })
