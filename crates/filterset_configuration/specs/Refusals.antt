-- What a refusal says.
use Rattle.filterset_configuration.specs.declared.refusal.ProfileRefusal.{ProfileRefusal}
use Rattle.filterset_configuration.specs.declared.refusal.ProfileRefusal.TheVariants.{Wrong, OutOfMemory}

-- a value is wrong
abbrev pub IsWrong : ProfileRefusal → Type 0
IsWrong (Wrong path expected) = Unit {0}
IsWrong (OutOfMemory error) = ⊥

-- a value is wrong, and the fact does not hold; or it is out of memory
abbrev pub Refuses : Type 0 → ProfileRefusal → Type 0
Refuses fact (Wrong path expected) = ¬ fact
Refuses fact (OutOfMemory error) = Unit {0}
