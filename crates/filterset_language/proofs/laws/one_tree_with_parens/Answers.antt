use Rattle.filterset_language.proofs.AddingParens.{one_way}
use Rattle.filterset_language.proofs.laws.one_tree_with_parens.Goals as goal

pub returns : goal.returns
returns c = λ e d f one other. one_way one other
