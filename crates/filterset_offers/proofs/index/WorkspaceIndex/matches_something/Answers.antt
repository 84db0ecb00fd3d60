use Rattle.filterset_language.specs.Views.{leaf_of}
use Rattle.filterset_offers.specs.Workspaces.{workspace_row}
use Rattle.filterset_offers.proofs.SomethingLemmas.{counts_the_same}
use Rattle.filterset_offers.proofs.index.WorkspaceIndex.matches_something.Goals as goal

pub returns-clause-counted : goal.returns-clause-counted
returns-clause-counted c = counts_the_same (workspace_row c.args.self.now.workspace) (leaf_of c.args.leaf.now)
