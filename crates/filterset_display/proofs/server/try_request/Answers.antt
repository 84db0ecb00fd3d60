use Rattle.std.proofs.Common.{Some, List, refl, subst}
use Rattle.serde_json.specs.View.{view}
use Rattle.filterset_display.specs.{Machine.Replies, declared.documents.Document.Document}
use Rattle.filterset_display.proofs.server.try_request.Goals as goal

pub returns-clause-ok : goal.returns-clause-ok
returns-clause-ok g c =
    let P : List Document → Type 0 = λ ds. Replies (g.L.Language.says c.args.language.now) c.args.server.now.phase ds
    c.args.call.now (view c.args.id.now) (view c.in_ok-value.value) in (
      Some (view c.in_ok-value.value),
      c.in_ok-written.ensures.written,
      ((view c.in_ok-value.value, subst P c.as_slice-documents.ensures.value c.in_ok-value.ensures, refl), c.phase_after-server.ensures, refl),
    )
