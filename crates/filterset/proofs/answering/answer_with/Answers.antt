use Rattle.std.proofs.lemmas.Result.{IfOk-weaker}
use Rattle.filterset.proofs.answering.answer_with.Goals as goal

pub returns-clause-answered : goal.returns-clause-answered
returns-clause-answered g c = IfOk-weaker c.answer_from.result _ _ (λ answer answers. (_, (c.in_ok-file.ensures.origin, c.in_ok-file.ensures.text), answers)) c.answer_from.ensures.answered
