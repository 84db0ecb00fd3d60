use Rattle.filterset_deciding.proofs.Picked.{picked_by_one}
use Rattle.filterset_deciding.proofs.laws.no_test_is_lost.Goals as goal

pub returns : goal.returns
returns c = λ given default exprs met test is_given answers are.
    picked_by_one default test exprs answers are (met test is_given answers are)
