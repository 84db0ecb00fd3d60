-- The places before, between and after the parts of sequences, and the texts that lead to them.
use Rattle.std.specs.Prelude.{◌≡◌, ◌↔◌, ◌+◌, ◌<◌, ◌++◌, ℕ, Bool, false, List, [], ◌∷◌, Option, Some, None, IsTrue, length, map, take, slice_index_or}
use Rattle.std.specs.{Borrow.Bor, List.flat_map, declared.vec.Vec.Vec, declared.alloc.Global.Global}
use Rattle.filterset_glob.specs.Matching.{InClass}
use Rattle.filterset_texts.specs.{declared.part.Part.Part, declared.part.Condition.Condition, Parts.Fits}
use Rattle.filterset_texts.specs.declared.part.Part.TheVariants as part

-- the part before each place of the sequence, and none for the first place
abbrev pub places_of_parts : List Part → List (Option Part)
places_of_parts parts = None ∷ map Some parts

abbrev pub places_of_sequences : List (Vec Part Global) → List (Option Part)
places_of_sequences sequences = flat_map (λ sequence. places_of_parts sequence.items) sequences

abbrev pub places_of : List Condition → List (Option Part)
places_of conditions = flat_map (λ condition. places_of_sequences condition.sequences.items) conditions

abbrev pub place_of : Option (Bor Part) → Option Part
place_of None = None
place_of (Some part) = Some part.now

-- the places, given by references to the parts before them
abbrev pub row_of : List (Option (Bor Part)) → List (Option Part)
row_of places = map place_of places

-- the first place, if any, is the first of its sequence
abbrev pub BeginsAnew : List (Option Part) → Type 0
BeginsAnew (Some part ∷ places) = ⊥
BeginsAnew _ = Unit {0}

-- the parts of a sequence that come before the last of the places, where those of `before` come before the first
abbrev pub parts_before : List Part → List (Option Part) → List Part
parts_before before [] = before
parts_before before (None ∷ places) = parts_before [] places
parts_before before (Some part ∷ places) = parts_before (before ++ part ∷ []) places

-- a mark for each place: whether the parts of its sequence before it fit the text
pub record LeadsTo (places : List (Option Part)) (text : List ℕ) (marks : List Bool) : Type 0 where
  pub same_length : length marks ≡ length places
  pub each : (k : ℕ) → k < length places
      → IsTrue (slice_index_or marks k false) ↔ Fits (parts_before [] (take (k + 1) places)) text

-- the part before the place matches one character alone, and this one
abbrev pub Admits : Option Part → ℕ → Type 0
Admits (Some (part.One negated ranges)) c = InClass negated ranges.items c
Admits _ c = ⊥

-- a mark for each place: whether the part before it is one that admits the character
pub record IsAdmittedAt (places : List (Option Part)) (c : ℕ) (marks : List Bool) : Type 0 where
  pub same_length : length marks ≡ length places
  pub each : (k : ℕ) → k < length places → IsTrue (slice_index_or marks k false) ↔ Admits (slice_index_or places k None) c
