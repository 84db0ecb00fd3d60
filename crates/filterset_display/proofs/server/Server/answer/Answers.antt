use Rattle.std.proofs.Common.{◌≡◌, Some, String, codes, inl, refl, rules, string_bytes, subst, sym}
use Rattle.std.proofs.lemmas.Result.{IfOk-weaker}
use Rattle.std.specs.{Result.IfOk, declared.alloc.Global.Global}
use Rattle.serde_json.specs.{Data.Data, Data.null, View.view}
use Rattle.serde_json.specs.declared.value.Value.{Null, the_lemmas}
use Rattle.filterset_display.specs.Machine.{error_data, invalid_request, parse_error, state_of}
use Rattle.filterset_display.specs.{Refusals.AnswersOrRunsOut, Written.Writes}
use Rattle.filterset_display.specs.declared.message.Incoming.{Incoming, TheVariants.NotJson, TheVariants.NotMessage}
use Rattle.filterset_display.proofs.server.Server.answer.Goals as goal

null-view : view Null ≡ null
null-view = search (rules, the_lemmas)

pub returns-in-NotJson : goal.returns-in-NotJson
returns-in-NotJson g c =
    let S = g.L.Language.says c.args.language.now in
    let state = state_of c.args.self.now in
    let P : Incoming → Type 0 = λ i. IfOk c.write_error.result (λ w. AnswersOrRunsOut S state i (string_bytes w) state) in
    let Q : Data → String Global → Type 0 = λ id w. Writes (Some (error_data id parse_error (codes "not JSON"))) (string_bytes w) in
    let R : String Global → Type 0 = λ w. AnswersOrRunsOut S state NotJson (string_bytes w) state in
    let E : Data → Type 0 = λ id. IfOk c.write_error.result (Q id) in
    subst P (sym c.in-NotJson.is)
    (IfOk-weaker c.write_error.result (Q null) R (λ w written. (Some _, written, inl (refl, refl))) (subst E null-view c.write_error.ensures))

pub returns-in-NotMessage : goal.returns-in-NotMessage
returns-in-NotMessage g c =
    let S = g.L.Language.says c.args.language.now in
    let state = state_of c.args.self.now in
    let result = c.write_error-in-NotMessage.result in
    let P : Incoming → Type 0 = λ i. IfOk result (λ w. AnswersOrRunsOut S state i (string_bytes w) state) in
    let Q : Data → String Global → Type 0 = λ id w. Writes (Some (error_data id invalid_request (codes "no message"))) (string_bytes w) in
    let R : String Global → Type 0 = λ w. AnswersOrRunsOut S state NotMessage (string_bytes w) state in
    let E : Data → Type 0 = λ id. IfOk result (Q id) in
    subst P (sym c.in-NotMessage.is)
    (IfOk-weaker result (Q null) R (λ w written. (Some _, written, inl (refl, refl))) (subst E null-view c.write_error-in-NotMessage.ensures))
