use Rattle.std.proofs.lemmas.Bool.{false≢true}
use Rattle.filterset_deciding.proofs.inferring.infer_package.Goals as goal

pub returns-then-is_apart : goal.returns-then-is_apart
returns-then-is_apart c = λ id says.
    (λ e. absurd (false≢true e), λ has. absurd (c.is_apart.ensures c.if-is_apart.true id (says.0 c.if-value.true) has))
