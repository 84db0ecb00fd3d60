-- Whether a document holds the same as another but with other texts.
use Rattle.std.specs.Prelude.{◌≡◌, ◌⊎◌, Bool, false, List, [], ◌∷◌, is_none, unwrap_or}
use Rattle.std.specs.Bool.{Decides}
use Rattle.filterset_entries.specs.Checked.{TextRow}
use Rattle.filterset_display.specs.Positions.{Text}
use Rattle.filterset_documents.specs.Contents.{ContentRow, Holds, HoldsNothing}

-- the other filterset has the path and the kind of this one, and this text
abbrev pub IsRewritten : TextRow → Text → TextRow → Type 0
IsRewritten row new other = (other.origin ≡ row.origin) × (other.kind ≡ row.kind) × (other.text ≡ new)

-- the other filtersets are these, with these texts
abbrev pub AreRewritten : List TextRow → List Text → List TextRow → Type 0
AreRewritten [] [] [] = Unit {0}
AreRewritten (row ∷ rows) (new ∷ texts) (other ∷ others) = IsRewritten row new other × AreRewritten rows texts others
AreRewritten rows texts others = ⊥

-- the other content has the same groups, and the same filtersets with these texts
abbrev pub HasTexts : ContentRow → List Text → ContentRow → Type 0
HasTexts content texts other =
    (unwrap_or other.groups [] ≡ unwrap_or content.groups []) × AreRewritten content.rows texts other.rows

-- whether a document of the same sort with the text `after` holds the same, but with these texts
abbrev pub Becomes : ContentRow → List Text → Text → Bool → Type 0
Becomes content texts after answer =
    ((other : ContentRow) × Holds (is_none content.groups) after other × Decides answer (HasTexts content texts other))
    ⊎ (HoldsNothing (is_none content.groups) after × (answer ≡ false))
