use Rattle.filterset_deciding.proofs.Picked.{picked_twice}
use Rattle.filterset_deciding.proofs.laws.no_test_runs_twice.Goals as goal

pub returns : goal.returns
returns c = λ given default front middle rest one other met test is_given answers are.
    picked_twice default test front middle rest one other answers are (met test is_given answers are)
