-- Documents that are open, and what notifications do to them.
use Rattle.std.specs.Prelude.{◌≡◌, ◌++◌, ℕ, List, [], ◌∷◌, Option, option_and_then, position, slice_get, slice_set, string_bytes}
use Rattle.std.specs.{List.remove, Option.option_map_or, Str.bytes_eq}
use Rattle.filterset_display.specs.{Edits.AreChanged, Positions.Text, declared.documents.Document.Document}
use Rattle.filterset_display.specs.declared.{documents.Revision.Revision, positions.Encoding.Encoding}

-- what answers about a document go by
pub record DocumentRow : Type 0 where
  pub uri : Text
  pub language : Text
  pub text : Text

abbrev pub row_of : Document → DocumentRow
row_of document =
    record { uri = string_bytes document.uri; language = string_bytes document.language; text = string_bytes document.text }

-- where the document of this address is
abbrev pub place_of : Text → List Document → Option ℕ
place_of uri documents = position (λ d. bytes_eq (string_bytes d.uri) uri) documents

abbrev pub document_of : Text → List Document → Option Document
document_of uri documents = option_and_then (slice_get documents) (place_of uri documents)

-- the documents with this one in place of the one of its address, or after the others
abbrev pub put_document : Document → List Document → List Document
put_document document documents =
    option_map_or (λ i. slice_set documents i document) (place_of (string_bytes document.uri) documents) (documents ++ document ∷ [])

abbrev pub without_document : Text → List Document → List Document
without_document uri documents = option_map_or (λ i. remove documents i) (place_of uri documents) documents

-- the next version of a document: its text is the one that the changes give
abbrev pub IsRevised : Encoding → Document → Revision → Document → Type 0
IsRevised encoding old revision new =
    (string_bytes new.uri ≡ string_bytes old.uri) × (string_bytes new.language ≡ string_bytes old.language)
    × (new.version ≡ revision.version)
    × AreChanged encoding (string_bytes old.text) revision.changes.items (string_bytes new.text)
