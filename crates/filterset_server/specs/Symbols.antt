-- The symbols of a document.
use Rattle.std.specs.{Prelude.◌≡◌, Prelude.List, Prelude.codes, List.AllZip}
use Rattle.serde_json.specs.Data.{Data, array, number, unsigned, string, object, member, no_members}
use Rattle.serde_json.specs.View.{items_of}
use Rattle.filterset_entries.specs.Checked.{TextRow}
use Rattle.filterset_display.specs.{Positions.Text, declared.positions.Encoding.Encoding, declared.positions.Range.Range}
use Rattle.filterset_documents.specs.{Filtersets.place_span, Ranges.IsRangeOf, Ranges.range_data}

-- a string (15) with this name, in a range
abbrev pub symbol_data : Text → Data → Data
symbol_data name range =
    object (member (codes "kind") (number (unsigned 15)) (member (codes "name") (string name)
    (member (codes "range") range (member (codes "selectionRange") range no_members))))

-- the symbol of a filterset of the text: it is called as the filterset is, by a path or as a line, and is where that is
abbrev pub IsSymbol : Encoding → Text → TextRow → Data → Type 0
IsSymbol encoding text row d = (range : Range) × IsRangeOf encoding text (place_span row.place) range
    × (d ≡ symbol_data row.origin (range_data range))

-- the symbols of filtersets of the text, in their order
abbrev pub AreSymbols : Encoding → Text → List TextRow → Data → Type 0
AreSymbols encoding text rows d =
    (symbols : List Data) × AllZip (IsSymbol encoding text) rows symbols × (d ≡ array (items_of symbols))
