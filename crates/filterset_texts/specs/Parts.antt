-- What sequences of parts match, and how many parts conditions have.
use Rattle.std.specs.Prelude.{◌≡◌, ◌↔◌, ◌+◌, ◌++◌, ℕ, List, [], ◌∷◌, IsTrue, length}
use Rattle.std.specs.{List.Any, List.AllByRecursion, declared.vec.Vec.Vec, declared.alloc.Global.Global}
use Rattle.filterset_glob.specs.Matching.{InClass}
use Rattle.filterset_texts.specs.declared.part.{Part.Part, Condition.Condition}
use Rattle.filterset_texts.specs.declared.part.Part.TheVariants as part

-- the text, given by its characters, can be cut into pieces, one for each part in order, each matched by its part
abbrev pub Fits : List Part → List ℕ → Type 0
Fits [] text = text ≡ []
Fits (part.One negated ranges ∷ parts) text =
    (c : ℕ) × (rest : List ℕ) × (text ≡ c ∷ rest) × InClass negated ranges.items c × Fits parts rest
Fits (part.Any ∷ parts) text = (piece : List ℕ) × (rest : List ℕ) × (text ≡ piece ++ rest) × Fits parts rest

-- one of the sequences matches the text
abbrev pub FitsSome : List (Vec Part Global) → List ℕ → Type 0
FitsSome sequences text = Any (λ sequence. Fits sequence.items text) sequences

-- one of the condition's sequences matches the text exactly if one must
abbrev pub IsMetBy : List ℕ → Condition → Type 0
IsMetBy text condition = IsTrue condition.is_matched ↔ FitsSome condition.sequences.items text

-- the text meets all conditions
abbrev pub Meets : List ℕ → List Condition → Type 0
Meets text conditions = AllByRecursion (IsMetBy text) conditions

-- how many places there are before, between and after the parts of the sequences
abbrev pub place_count : List (Vec Part Global) → ℕ
place_count [] = 0
place_count (sequence ∷ sequences) = (length sequence.items + 1) + place_count sequences

abbrev pub all_place_count : List Condition → ℕ
all_place_count [] = 0
all_place_count (condition ∷ conditions) = place_count condition.sequences.items + all_place_count conditions
