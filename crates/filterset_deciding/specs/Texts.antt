-- Texts that meet demands.
use Rattle.std.specs.Prelude.{◌≡◌, ◌↔◌, ◌<◌, ◌⊎◌, ◌++◌, ℕ, Bool, true, false, List, [], ◌∷◌, Contains, IsTrue}
use Rattle.std.specs.List.{AllByRecursion, flat_map}
use Rattle.filterset_matchers.specs.{Equality.compared, Matcher.ByComparing, Matcher.Matcher, Matcher.MatchesName}
use Rattle.filterset_matchers.specs.Matchers.{matcher_of}
use Rattle.filterset_matchers.specs.Matcher as matcher
use Rattle.filterset_texts.specs.Expanding.{IsPattern, matcher_sequence_count}
use Rattle.filterset_deciding.specs.declared.demand.Demand.{Demand}

-- how many sequences of parts a glob is read as at most
abbrev pub most_sequences : ℕ
most_sequences = 256

-- the demand's matcher, without where it lies
abbrev pub matcher_in : Demand → Matcher
matcher_in demand = matcher_of demand.matcher.now

-- the character, given by its code, is in no text that the matcher compares with
abbrev pub IsFreeOf : ℕ → Matcher → Type 0
IsFreeOf c (matcher.Equal value implicit) = ¬ Contains value c
IsFreeOf c (matcher.Contains value implicit) = ¬ Contains value c
IsFreeOf c (matcher.Glob own tokens implicit) = Unit {0}
IsFreeOf c (matcher.Regex pattern) = Unit {0}

-- The demands are of matchers that compare texts, and some printable ASCII character is in no text of a matcher that must
-- not match.
pub record AreComparisons (demands : List Demand) : Type 0 where
  pub compare : AllByRecursion (λ demand. ByComparing (matcher_in demand)) demands
  pub free : (c : ℕ) × (32 < c) × (c < 127) × AllByRecursion (λ demand. demand.is_matched ≡ false → IsFreeOf c (matcher_in demand)) demands

-- the matcher is a pattern, or a glob that is read as more sequences than are searched
abbrev pub IsUnsearched : Matcher → Type 0
IsUnsearched own = IsPattern own ⊎ (most_sequences < matcher_sequence_count own)

-- so is the matcher of one of the demands
abbrev pub HasUnsearched : List Demand → Type 0
HasUnsearched demands = (demand : Demand) × Contains demands demand × IsUnsearched (matcher_in demand)

-- ---- what only contracts of private functions cite

-- the matcher matches the text exactly if it has to
abbrev pub IsMetBy : List ℕ → Demand → Type 0
IsMetBy text demand = IsTrue demand.is_matched ↔ MatchesName (matcher_in demand) text

-- the text meets all demands
abbrev pub Meets : List ℕ → List Demand → Type 0
Meets text demands = AllByRecursion (IsMetBy text) demands

-- the matcher compares for equality
abbrev pub IsEqual : Matcher → Type 0
IsEqual (matcher.Equal value implicit) = Unit {0}
IsEqual _ = ⊥

-- no text has to be equal to another
abbrev pub NoneEqual : List Demand → Type 0
NoneEqual demands = AllByRecursion (λ demand. demand.is_matched ≡ true → ¬ IsEqual (matcher_in demand)) demands

-- the matcher compares texts, and where it must not match, this character is free
abbrev pub IsSimple : ℕ → Demand → Type 0
IsSimple c demand = ByComparing (matcher_in demand) × (demand.is_matched ≡ false → IsFreeOf c (matcher_in demand))

abbrev pub AreSimple : ℕ → List Demand → Type 0
AreSimple c demands = AllByRecursion (IsSimple c) demands

-- a character, and then the text that has to be contained, if one has
abbrev pub part : ℕ → Matcher → Bool → List ℕ
part c (matcher.Contains value implicit) true = c ∷ value
part c _ _ = []

abbrev pub part_of : ℕ → Demand → List ℕ
part_of c demand = part c (matcher_in demand) demand.is_matched

-- all texts that have to be contained, the character before each and after the last
abbrev pub joined : ℕ → List Demand → List ℕ
joined c demands = flat_map (part_of c) demands ++ c ∷ []

-- one of the demands says the same
abbrev pub IsAmong : List Demand → Demand → Type 0
IsAmong kept demand = (other : Demand) × Contains kept other × (other.is_matched ≡ demand.is_matched)
    × (compared (matcher_in other) ≡ compared (matcher_in demand))
