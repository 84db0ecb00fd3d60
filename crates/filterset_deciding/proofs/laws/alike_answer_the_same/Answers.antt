use Rattle.std.proofs.Common.{[], ◌∷◌}
use Rattle.filterset_deciding.proofs.Picked.{alike_two}
use Rattle.filterset_deciding.proofs.laws.alike_answer_the_same.Goals as goal

pub returns : goal.returns
returns c = λ given default one other met test is_given x y of_one of_other.
    alike_two x y (met test is_given (x ∷ y ∷ []) (of_one, (of_other, tt)))
