use Rattle.std.proofs.{Common.refl, lemmas.Result.IfOk-weaker}
use Rattle.filterset_verdicts.specs.{Deciding.question_of, declared.answering.TextQuestion.TextQuestion}
use Rattle.filterset_verdicts.proofs.deciding.decide_entries.Goals as goal

pub returns : goal.returns
returns c =
    let request = c.args.request.now in
    let asked : TextQuestion = record { question = question_of request.question; entries = c.args.entries; suites = c.args.workspace.suites; budget = request.budget } in
    IfOk-weaker c.answer_texts.result _ _ (λ answer answers. (
      _,
      asked,
      refl,
      refl,
      refl,
      refl,
      refl,
      (refl, refl, refl, refl),
      answers,
    )) (rw c.question_of.ensures at c.answer_texts.ensures)
