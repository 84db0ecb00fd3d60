use Rattle.std.proofs.Common.{◌≡◌, Some, ap, option_map, string_bytes, sym, ◌∙◌}
use Rattle.filterset_display.specs.{Machine.state_of, Refusals.uri_of}
use Rattle.filterset_display.proofs.RefusalLemmas.{notice-refused}
use Rattle.filterset_display.proofs.server.answer_notice.Goals as goal

pub returns-in-Some : goal.returns-in-Some
returns-in-Some g c =
    let about : uri_of c.args.notice ≡ Some c.as_str.result.now =
    sym c.in_ok-address.ensures ∙ ap (option_map (λ uri. string_bytes uri)) c.in-Some.is ∙ ap Some (sym c.as_str.ensures.value) in
    notice-refused (g.L.Language.says c.args.language.now)
    (state_of c.args.server.now) (state_of c.try_notice.new.server) (state_of c.forget_document.new.server) c.args.notice c.as_str.result.now c.forget_document.result
    about c.in-Err.ensures.err (c.forget_document.ensures.phase, c.forget_document.ensures.documents) c.forget_document.ensures.written
