-- What a refusal says.
use Rattle.std.specs.Prelude.{◌≡◌, string_bytes}
use Rattle.filterset_json.specs.{Paths.joined, Paths.step_text, Shape.Text, declared.path.Step.Step}
use Rattle.filterset_json.specs.declared.refusal.EntryRefusal.{EntryRefusal, TheVariants.Wrong, TheVariants.OutOfMemory}

-- a value is wrong, and the fact does not hold; or it is out of memory
abbrev pub Refuses : Type 0 → EntryRefusal → Type 0
Refuses fact (Wrong wrong) = ¬ fact
Refuses fact (OutOfMemory error) = Unit {0}

-- the value at this path is not what is expected
abbrev pub IsWrong : EntryRefusal → Text → Text → Type 0
IsWrong (Wrong wrong) path expected = (string_bytes wrong.path ≡ path) × (wrong.expected.now ≡ expected)
IsWrong (OutOfMemory error) path expected = ⊥

-- the same refusal, by the path from where this step begins; it may be out of memory instead
abbrev pub IsAfter : Step → EntryRefusal → EntryRefusal → Type 0
IsAfter step (Wrong inner) (Wrong outer) =
    (string_bytes outer.path ≡ joined (step_text step) (string_bytes inner.path))
    × (outer.expected.now ≡ inner.expected.now)
IsAfter step (Wrong inner) (OutOfMemory error) = Unit {0}
IsAfter step (OutOfMemory error) outer = outer ≡ OutOfMemory error
