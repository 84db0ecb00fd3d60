use Rattle.filterset_expression.specs.BinaryMeaning.{is_either_of_test, tree_with_default, EitherOfBinary}
use Rattle.filterset_expression.specs.Connectives.{ExclusiveDisjunction}
use Rattle.filterset_expression.proofs.{Exact.turned_can_be, Connectives.turned}
use Rattle.filterset_expression.proofs.laws.symmetric_difference_is_commutative.Goals as goal

pub returns-clause-tests : goal.returns-clause-tests
returns-clause-tests c = λ packages test default lookup caret a b. (turned _ _, turned _ _)

pub returns-clause-binaries : goal.returns-clause-binaries
returns-clause-binaries c = λ packages binary default caret a b value.
    let one = tree_with_default default a in
    let other = tree_with_default default b in
    let holds = EitherOfBinary packages binary in
    (turned_can_be is_either_of_test holds ExclusiveDisjunction turned one other value, turned_can_be is_either_of_test holds ExclusiveDisjunction turned other one value)
