-- What a search for a text finds, and what it has reached on its way.
use Rattle.std.specs.Prelude.{◌≡◌, ◌≢◌, ◌++◌, ◌^◌, ◌<◌, ℕ, List, [], ◌∷◌, Bool, Option, length, string_bytes}
use Rattle.std.proofs.Math.Bool.{beq}
use Rattle.std.specs.{Cmp.Lexicographic.pointwise, HashSet.HashSet, HashSet.contains}
use Rattle.std.specs.List.{All, AllPairs, Any, list_any}
use Rattle.std.specs.{declared.vec.Vec.Vec, declared.alloc.Global.Global, Str.IsUtf8, Str.chars}
use Rattle.filterset_texts.specs.declared.{letters.Letter.Letter, part.Condition.Condition, part.Part.Part}
use Rattle.filterset_texts.specs.declared.searching.Found.{Found}
use Rattle.filterset_texts.specs.declared.searching.Found.TheVariants.{Text, Nothing, Stopped}
use Rattle.filterset_texts.specs.{declared.states.State.State, Parts.Meets, Parts.all_place_count}
use Rattle.filterset_texts.specs.Places.{IsAdmittedAt, LeadsTo, places_of}

-- the texts lead to different sets of places
abbrev pub LeadApart : List Condition → List ℕ → List ℕ → Type 0
LeadApart conditions text other =
    (marks : List Bool) → LeadsTo (places_of conditions) (chars text) marks
    → ¬ LeadsTo (places_of conditions) (chars other) marks

-- the texts lead to the same set of places
abbrev pub LeadTogether : List Condition → List ℕ → List ℕ → Type 0
LeadTogether conditions text other =
    (marks : List Bool) × LeadsTo (places_of conditions) (chars text) marks
    × LeadsTo (places_of conditions) (chars other) marks

-- there are more texts than the limit, no two of which lead to the same set of places
abbrev pub ExceedsLimit : List Condition → ℕ → Type 0
ExceedsLimit conditions limit =
    (texts : List (List ℕ)) × (limit < length texts) × All IsUtf8 texts × AllPairs (LeadApart conditions) texts

-- texts lead to this number of sets of places: no two of the texts lead to the same set, and every text leads to that of one
abbrev pub HasSets : List Condition → ℕ → Type 0
HasSets conditions count =
    (texts : List (List ℕ)) × (length texts ≡ count) × AllPairs (LeadApart conditions) texts
    × ((text : List ℕ) → IsUtf8 text → Any (LeadTogether conditions text) texts)

-- the text found meets the conditions, or no text does, or there are more sets of places than the limit
abbrev pub IsRight : List Condition → ℕ → Found → Type 0
IsRight conditions limit (Text text) = Meets (chars (string_bytes text)) conditions
IsRight conditions limit Nothing = (text : List ℕ) → IsUtf8 text → ¬ Meets (chars text) conditions
IsRight conditions limit Stopped = (limit < 2 ^ all_place_count conditions) × ExceedsLimit conditions limit

-- each state's text leads to its places, the empty text leads to those of one state, and no two states have the same places
pub record AreStates (row : List (Option Part)) (states : List State) : Type 0 where
  pub each : All (λ state. LeadsTo row (chars (string_bytes state.text)) state.marks.items) states
  pub start : Any (λ state. LeadsTo row [] state.marks.items) states
  pub distinct : AllPairs (λ state other. state.marks.items ≢ other.marks.items) states

-- a text that leads to these places leads to those others, if a character follows that is like the letter
abbrev pub LeadsOn : List (Option Part) → Letter → List Bool → List Bool → Type 0
LeadsOn row letter marks next =
    (text : List ℕ) (c : ℕ) → LeadsTo row text marks → IsAdmittedAt row c letter.marks.items → LeadsTo row (text ++ c ∷ []) next

-- the places that the letter leads to from these are those of a state
abbrev pub HasNext : List (Option Part) → List State → List Bool → Letter → Type 0
HasNext row states marks letter = Any (λ state. LeadsOn row letter marks state.marks.items) states

abbrev pub same_marks : Vec Bool Global → Vec Bool Global → Bool
same_marks marks others = pointwise beq marks.items others.items

-- the set has the marks of the states, and no others
abbrev pub AreSeen : {S : Type 0} → List State → HashSet (Vec Bool Global) S → Type 0
AreSeen states seen = (marks : Vec Bool Global) → contains same_marks seen marks ≡ list_any (λ state. same_marks marks state.marks) states
