-- Documents that are revised.
use Rattle.std.proofs.Common.{◌≡◌, List, Option, None, Some, sym, subst}
use Rattle.std.specs.Option.{MatchOption}
use Rattle.serde_json.specs.Data.{Data}
use Rattle.filterset_display.specs.Documents.{IsRevised, document_of, put_document}
use Rattle.filterset_display.specs.{Machine.Publishes, Machine.Says, Positions.Text}
use Rattle.filterset_display.specs.declared.documents.{Document.Document, Revision.Revision}
use Rattle.filterset_display.specs.declared.positions.Encoding.{Encoding}

pub changed-is : (S : Says) (e : Encoding) (uri : Text) (revision : Revision)
    (old new : List Document) (document revised : Document) (answer : Option Data) → document_of uri old ≡ Some document
    → IsRevised e document revision revised → Publishes S e revised answer → new ≡ put_document revised old
    → MatchOption (document_of uri old) ((answer ≡ None) × (new ≡ old))
    (λ document. (r : Document) × IsRevised e document revision r × Publishes S e r answer × (new ≡ put_document r old))
changed-is S e uri revision old new document revised answer found is published put =
    let P : Option Document → Type 0 = λ o. MatchOption o ((answer ≡ None) × (new ≡ old))
    (λ document. (r : Document) × IsRevised e document revision r × Publishes S e r answer × (new ≡ put_document r old)) in
    subst P (sym found) (revised, is, published, put)
