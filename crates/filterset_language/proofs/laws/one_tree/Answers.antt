use Rattle.filterset_language.proofs.SpelledIsRead.{one_tree}
use Rattle.filterset_language.proofs.laws.one_tree.Goals as goal

pub returns : goal.returns
returns c = one_tree
