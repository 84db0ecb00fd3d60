-- Texts that are no records.
use Rattle.std.proofs.Common.{◌≡◌, ℕ, List, inl, inr, subst}
use Rattle.std.specs.Prelude.{Some}
use Rattle.serde_json.specs.{Data.Data, Read.read}
use Rattle.filterset_record.specs.Record.{IsRecord, RecordRow}
use Rattle.filterset_c.specs.Workspaces.{IsNoGraphOf, IsNoRecord}

-- the value of a text is no record
pub value_is_no_record : (text bytes : List ℕ) (value : Data) → text ≡ bytes → read text ≡ Some value
    → (((row : RecordRow) × IsRecord value row) → ⊥) → IsNoRecord bytes
value_is_no_record text bytes value same is why = subst IsNoRecord same (inr (value, is, inl why))

-- the packages of a record make no graph
pub packages_are_no_graph : (text bytes : List ℕ) (value : Data) (row : RecordRow) → text ≡ bytes → read text ≡ Some value
    → IsRecord value row → IsNoGraphOf row.packages → IsNoRecord bytes
packages_are_no_graph text bytes value row same is record_is why = subst IsNoRecord same (inr (value, is, inr (row, record_is, why)))
