use Rattle.filterset_language.specs.Views.{leaf_of}
use Rattle.filterset_offers.proofs.MeaningLemmas.{means_the_same}
use Rattle.filterset_offers.proofs.matched.match_leaf.Goals as goal

pub returns-clause-meaning : goal.returns-clause-meaning
returns-clause-meaning c = means_the_same c.args.workspace.now.graph.now (leaf_of c.args.leaf.now)
