-- What nextest does not read of a configuration.
use Rattle.std.specs.Prelude.{◌≡◌, ◌++◌, ◌∷◌, [], List, None, Option, Some, codes, map, option_map, string_bytes}
use Rattle.filterset_display.specs.{Columns.Text, Remarks.RemarkRow, Remarks.said}
use Rattle.filterset_display.specs.declared.remark.Severity.TheVariants.{Warning}
use Rattle.filterset_faults.specs.declared.span.SourceSpan.{SourceSpan}
use Rattle.filterset_configuration.specs.{Keys.AreUnknownKeys, declared.unknown.UnknownKey.UnknownKey}
use Rattle.filterset_rewriting.specs.Tokens.{HasCarets}
use Rattle.filterset_entries.specs.{Checked.TextRow, Placements.Placement, Placements.file_part}

-- where a span of a text is in its file
abbrev pub found_span : Option Placement → SourceSpan → Option SourceSpan
found_span place span = option_map (λ part. part.span) (file_part place (Some span))

-- an operator that nextest has not, of the filterset at this path
abbrev pub caret_remark : Text → Option SourceSpan → RemarkRow
caret_remark path at = said Warning (codes "NotInNextest")
    (codes "the operator `^` of `" ++ (path ++ codes "` is not in nextest"))
    None (Some (codes "write `(a - b) or (b - a)`")) at

-- a remark on each operator `^` of a filterset
abbrev pub AreCaretRemarks : TextRow → List RemarkRow → Type 0
AreCaretRemarks row remarks = (spans : List SourceSpan) × HasCarets row.text spans
    × (remarks ≡ map (λ s. caret_remark row.origin (found_span row.place s)) spans)

-- those on the operators of filtersets, in their order
abbrev pub AreAllCaretRemarks : List TextRow → List RemarkRow → Type 0
AreAllCaretRemarks [] remarks = remarks ≡ []
AreAllCaretRemarks (row ∷ rows) remarks = (front rest : List RemarkRow) × AreCaretRemarks row front
    × AreAllCaretRemarks rows rest × (remarks ≡ front ++ rest)

-- a key that is near one that is read
abbrev pub key_remark : UnknownKey → RemarkRow
key_remark key = said Warning (codes "UnknownKey") (codes "no key `" ++ (string_bytes key.path ++ codes "` is read"))
    None (Some (codes "did you mean `" ++ (key.meant.now ++ codes "`?"))) key.span

-- remarks on the operators of the filtersets of a configuration with this text, in their order, and then on keys
abbrev pub AreUnreadRemarks : Text → List TextRow → List RemarkRow → Type 0
AreUnreadRemarks text rows remarks = (carets : List RemarkRow) × (keys : List UnknownKey)
    × AreAllCaretRemarks rows carets × AreUnknownKeys text keys × (remarks ≡ carets ++ map key_remark keys)
