use Rattle.std.proofs.{Common.inr, Common.string_bytes, lemmas.Result.IfErr-weaker, lemmas.Result.IfOk-weaker}
use Rattle.filterset.specs.Requests.{Faults, IsFaultOf}
use Rattle.filterset_loading.specs.Files.{content_of}
use Rattle.filterset_loading.proofs.FaultLemmas.{OrMemory-weaker}
use Rattle.filterset.proofs.answering.answer.Goals as goal

pub returns-clause-answered : goal.returns-clause-answered
returns-clause-answered g c =
    let told = rw c.as_str.ensures.value at c.answer_with.ensures.answered in
    IfOk-weaker c.answer_with.result _ _ (λ answer answers. (string_bytes c.in_ok-text.text, c.in_ok-text.ensures.whole, answers)) told

pub returns-clause-refused : goal.returns-clause-refused
returns-clause-refused g c =
    let content = g.F.FileSource.content c.args.files.now in
    let fails = g.F.FileSource.fails c.args.files.now in
    let input = string_bytes c.in_ok-text.text in
    let request = c.args.request.now in
    let left = g.R.Source.left c.args.input.now in
    let failed = g.R.Source.failed c.input_of.new.input in
    let told = rw c.as_str.ensures.value at c.answer_with.ensures.refused in
    IfErr-weaker c.answer_with.result _ _ (OrMemory-weaker (Faults (content_of content input) fails request) (IsFaultOf content fails request left failed)
    (λ fault lacks. inr (input, c.in_ok-text.ensures.whole, lacks))) told
