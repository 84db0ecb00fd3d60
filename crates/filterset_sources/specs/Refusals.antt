-- What a refusal says.
use Rattle.std.specs.Prelude.{◌≡◌, None, string_bytes}
use Rattle.serde_json.specs.Read.{read}
use Rattle.filterset_json.specs.{Places.Place, Shape.Text, declared.refusal.EntryRefusal.EntryRefusal}
use Rattle.filterset_json.specs.declared.refusal.EntryRefusal.TheVariants as entries
use Rattle.filterset_sources.specs.declared.refusal.SourceRefusal.{SourceRefusal}
use Rattle.filterset_sources.specs.declared.refusal.SourceRefusal.TheVariants.{NotJson, NotToml, WrongValue, OutOfMemory}

-- a value is wrong, and P holds of its place; or it is out of memory
abbrev pub Refuses : (Place → Type 0) → SourceRefusal → Type 0
Refuses P (WrongValue wrong) = P (string_bytes wrong.path, wrong.expected.now)
Refuses P (OutOfMemory error) = Unit {0}
Refuses P _ = ⊥

-- the text is no JSON, or it is out of memory
abbrev pub RefusesJson : Text → SourceRefusal → Type 0
RefusesJson text (NotJson error) = read text ≡ None
RefusesJson text (OutOfMemory error) = Unit {0}
RefusesJson text _ = ⊥

-- the value at this path is not what is expected
abbrev pub IsWrong : SourceRefusal → Text → Text → Type 0
IsWrong (WrongValue wrong) path expected = (string_bytes wrong.path ≡ path) × (wrong.expected.now ≡ expected)
IsWrong (OutOfMemory error) path expected = ⊥
IsWrong (NotJson error) path expected = ⊥
IsWrong (NotToml error line) path expected = ⊥

-- the refusal of a file in which this entry is refused
abbrev pub source_refusal : EntryRefusal → SourceRefusal
source_refusal (entries.Wrong wrong) = WrongValue wrong
source_refusal (entries.OutOfMemory error) = OutOfMemory error
