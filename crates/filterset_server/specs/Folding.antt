-- Which filtersets can be folded.
use Rattle.std.specs.Prelude.{◌≡◌, List, [], ◌∷◌, codes, nat_lt, if◌then◌else◌}
use Rattle.serde_json.specs.Data.{Data, array, number, unsigned, object, member, no_members}
use Rattle.serde_json.specs.View.{items_of}
use Rattle.filterset_entries.specs.Checked.{TextRow}
use Rattle.filterset_display.specs.{Positions.Text, declared.positions.Encoding.Encoding, declared.positions.Range.Range}
use Rattle.filterset_documents.specs.{Filtersets.place_span, Joins.Joins, Ranges.IsRangeOf}

-- what is folded of a range: the lines from its start to its end, if these are several
abbrev pub folds_of : Range → List Data
folds_of range = if nat_lt range.start.line range.end.line
    then object (member (codes "endLine") (number (unsigned range.end.line))
    (member (codes "startLine") (number (unsigned range.start.line)) no_members)) ∷ [] else []

-- what is folded of a filterset: the lines where it is, if there are several
abbrev pub RowFolds : Encoding → Text → TextRow → List Data → Type 0
RowFolds encoding text row ds =
    (range : Range) × IsRangeOf encoding text (place_span row.place) range × (ds ≡ folds_of range)

-- what is folded of filtersets, in their order
abbrev pub AreFolds : Encoding → Text → List TextRow → Data → Type 0
AreFolds encoding text rows d =
    (folds : List Data) × Joins (RowFolds encoding text) rows folds × (d ≡ array (items_of folds))
