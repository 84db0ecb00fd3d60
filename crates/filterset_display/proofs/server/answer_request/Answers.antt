use Rattle.std.proofs.Common.{Some, String, inr, refl, string_bytes}
use Rattle.std.proofs.lemmas.Result.{IfOk-weaker}
use Rattle.std.specs.declared.alloc.Global.{Global}
use Rattle.serde_json.specs.View.{view}
use Rattle.filterset_display.specs.{Machine.state_of, Refusals.AnswersOrRunsOut, Refusals.refused_data, Written.Writes}
use Rattle.filterset_display.specs.declared.message.Incoming.TheVariants.{Request}
use Rattle.filterset_display.proofs.server.answer_request.Goals as goal

pub returns-in-Err : goal.returns-in-Err
returns-in-Err g c =
    let id = c.args.id.now in
    let P : String Global → Type 0 = λ w. Writes (Some (refused_data (view id))) (string_bytes w) in
    let Q : String Global → Type 0 = λ w. AnswersOrRunsOut (g.L.Language.says c.args.language.now) (state_of c.args.server.now)
    (Request id c.args.call.now) (string_bytes w) (state_of c.try_request.new.server) in
    IfOk-weaker c.refuse_request.result P Q (λ w written. (Some (refused_data (view id)), written, inr (refl, c.in-Err.ensures.err)))
    c.refuse_request.ensures
