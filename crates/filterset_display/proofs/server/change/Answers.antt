use Rattle.std.proofs.Common.{◌≡◌, Some, string_bytes, sym, subst, List}
use Rattle.serde_json.specs.View.{view}
use Rattle.filterset_display.specs.{Documents.document_of, Positions.Text, declared.documents.Document.Document}
use Rattle.filterset_display.proofs.ServerLemmas.{changed-is}
use Rattle.filterset_display.proofs.server.change.Goals as goal

pub returns-clause-ok : goal.returns-clause-ok
returns-clause-ok g c =
    let P : Text → Type 0 = λ t. document_of t c.args.documents.now.items ≡ Some c.in-Some.document.now in
    let Q : List Document → Type 0 = λ ds. document_of c.as_str.result.now ds ≡ Some c.in-Some.document.now in
    let found : document_of (string_bytes c.args.revision.uri) c.args.documents.now.items ≡ Some c.in-Some.document.now =
    subst P c.as_str.ensures.value (subst Q c.as_slice.ensures.value (sym c.in-Some.ensures)) in
    changed-is (g.L.Language.says c.args.language.now) c.args.encoding (string_bytes c.args.revision.uri) c.args.revision
    c.args.documents.now.items c.put_document.new.documents.items c.in-Some.document.now c.in_ok-revised.revised (Some (view c.in_ok-value.value))
    found c.in_ok-revised.ensures c.in_ok-value.ensures c.in_ok-put_document.ensures.ok
