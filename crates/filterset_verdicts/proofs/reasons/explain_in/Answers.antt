use Rattle.std.proofs.lemmas.Result.{IfOk-weaker}
use Rattle.filterset_verdicts.proofs.reasons.explain_in.Goals as goal

pub returns : goal.returns
returns c =
    let told = rw c.from_ref-overrides.ensures.value at c.in_ok-explanation.ensures in
    let moved = rw (c.as_str.ensures.value, c.in_ok-text.ensures) at c.indent.ensures in
    IfOk-weaker c.indent.result _ _ (λ text is. λ compiled. (c.put_all-over.result, c.in_ok-explanation.explanation, c.put_all-over.ensures, told compiled, is)) moved
