-- What `check` writes about texts.
use Rattle.std.specs.Prelude.{◌≡◌, ◌==◌, ◌++◌, Bool, true, false, ℕ, suc, ◌+◌, List, [], ◌∷◌, codes, decimal, length, if◌then◌else◌}
use Rattle.filterset_display.specs.{Columns.Text, Remarks.RemarkRow}
use Rattle.filterset_display.specs.declared.remark.Form.{Form, TheVariants.Drawn}
use Rattle.filterset_entries.specs.{Checked.HasFaults, Checked.TextRow, Forms.FaultPieces, declared.names.Names.Names}

-- ---- faults

abbrev pub has_some : List RemarkRow → Bool
has_some [] = false
has_some (fault ∷ faults) = true

-- what is written of the faults of a text with this number, and whether it has any
abbrev pub TextFaults : (TextRow → List RemarkRow → Type 0) → Form → ℕ → TextRow → Bool → Text → Type 0
TextFaults Has form number row has piece = (faults : List RemarkRow) × Has row faults × (has ≡ has_some faults)
    × FaultPieces form row number faults piece

-- what is written of the faults of texts, of which the first has this number, and how many of them have any
pub data FaultsOf (Has : TextRow → List RemarkRow → Type 0) (form : Form) :
    ℕ → List TextRow → ℕ → Text → Type 0 where
  no_texts : {n : ℕ} → FaultsOf Has form n [] 0 []
  next_text : {n others : ℕ} {row : TextRow} {rows : List TextRow} {faults : List RemarkRow} {front rest : Text}
      → Has row faults → FaultPieces form row n faults front → FaultsOf Has form (suc n) rows others rest
      → FaultsOf Has form n (row ∷ rows) ((if length faults == 0 then 0 else 1) + others) (front ++ rest)

-- ---- checking

-- how many texts there are, how many of them have faults, and which names were not checked
abbrev pub counts_text : Names → ℕ → ℕ → Text
counts_text names count faulty =
    codes "filtersets: " ++ (decimal count ++ (codes ", with faults: " ++ (decimal faulty ++ (codes "\n"
    ++ ((if names.has_packages then [] else codes "not checked: names of packages and test binaries\n")
    ++ (if names.has_groups then [] else codes "not checked: names of test groups\n"))))))

-- what is said for people at the end
abbrev pub summary : Form → Names → ℕ → ℕ → Text
summary (Drawn color) names count faulty = counts_text names count faulty
summary _ names count faulty = []

-- what checking texts answers
abbrev pub ChecksTexts : Names → Form → List TextRow → ℕ → Text → Type 0
ChecksTexts names form rows faulty text =
    (front : Text) × FaultsOf (HasFaults names) form 1 rows faulty front
    × (text ≡ front ++ summary form names (length rows) faulty)
