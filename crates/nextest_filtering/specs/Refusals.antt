-- The faults of a refusal.
use Rattle.std.specs.Prelude.{ℕ, List, All}
use Rattle.filterset_language.specs.Faults.{FaultStands}
use Rattle.nextest_filtering.specs.declared.filterset.ParseRefusal.{ParseRefusal}
use Rattle.nextest_filtering.specs.declared.filterset.ParseRefusal.TheVariants.{Faults, OutOfMemory}

-- the refusal is for lack of memory
abbrev pub IsOutOfMemory : ParseRefusal → Type 0
IsOutOfMemory (Faults refused) = ⊥
IsOutOfMemory (OutOfMemory given) = Unit {0}

-- each fault of the refusal is true of the text
abbrev pub IsTrueOf : List ℕ → ParseRefusal → Type 0
IsTrueOf text (Faults refused) = All (FaultStands text) refused.errors.items
IsTrueOf text (OutOfMemory given) = Unit {0}
