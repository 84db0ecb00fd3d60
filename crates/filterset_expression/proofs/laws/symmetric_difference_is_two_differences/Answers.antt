use Rattle.std.proofs.Common.{inl, inr, ⊎_elim}
use Rattle.filterset_expression.proofs.laws.symmetric_difference_is_two_differences.Goals as goal

pub returns : goal.returns
returns c = λ packages test default lookup caret or minus a b. (
  ⊎_elim (λ p. inl p) (λ q. inr (q.1, q.0)),
  ⊎_elim (λ p. inl p) (λ q. inr (q.1, q.0)),
)
