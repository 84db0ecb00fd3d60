-- How commands end.
use Rattle.std.specs.Prelude.{◌≡◌, ◌++◌, ℕ, zero, suc, Bool, codes, if◌then◌else◌}
use Rattle.filterset_display.specs.Columns.{Text}
use Rattle.filterset_entries.specs.declared.text.Ending.{Ending}
use Rattle.filterset_entries.specs.declared.text.Ending.TheVariants.{Fine, Faulty, Differing, Unknown}

-- how a command ends where this many filtersets have faults
abbrev pub ending_of : ℕ → Ending
ending_of zero = Fine
ending_of (suc n) = Faulty

-- how an answer ends, by whether some of it is unknown
abbrev pub unknown_ending : Bool → Ending
unknown_ending is_unknown = if is_unknown then Unknown else Fine

-- how a comparison ends, by whether the filtersets differ, and whether some of it is unknown
abbrev pub differing_ending : Bool → Bool → Ending
differing_ending differ is_unknown = if differ then Differing else unknown_ending is_unknown

-- the answer if the default filter depends on the platform of the override at this path
abbrev pub AnswersUnknown : Text → Ending → Text → Type 0
AnswersUnknown path ending text = (text ≡ codes "unknown: platform of " ++ (path ++ codes "\n")) × (ending ≡ Unknown)
