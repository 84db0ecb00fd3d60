-- Where a value is wrong, and what it must be.
use Rattle.std.specs.Prelude.{◌≡◌, ◌⊎◌, ◌++◌, ℕ, suc, List, [], ◌∷◌, All, IsSomeAnd, MatchOption, Some, codes, decimal, slice_get, string_bytes, take}
use Rattle.serde_json.specs.{Data.Data, Data.Items, Data.no_items, Data.item, Find.as_array, Find.as_object, Find.get}
use Rattle.filterset_json.specs.{Paths.joined, Paths.key_text, Shape.IsListOf, Shape.IsText, Shape.Required, Shape.Text}
use Rattle.filterset_json.specs.declared.refusal.EntryRefusal.{EntryRefusal, TheVariants.Wrong}
use Rattle.filterset_json.specs.declared.refusal.WrongValue.{WrongValue}

-- the path to a value, and what the value must be
abbrev pub Place : Type 0
Place = Text × Text

-- P holds of the place that a refusal names, if it names one
abbrev pub Names : (Place → Type 0) → EntryRefusal → Type 0
Names P refusal = (wrong : WrongValue) → refusal ≡ Wrong wrong → P (string_bytes wrong.path, wrong.expected.now)

-- the value itself is wrong: it stands for no entry
abbrev pub Itself : {A : Type 0} → (Data → A → Type 0) → Text → Data → Place → Type 0
Itself {A} P expected d place = (place ≡ ([], expected)) × ¬ ((x : A) × P d x)

-- P holds of the place as it is named from after this step
abbrev pub After : Text → (Place → Type 0) → Place → Type 0
After step P place = (rest : Text) × (place.0 ≡ joined step rest) × P (rest, place.1)

-- the first part that is wrong: each part has what holds if it is well, and its wrong place; all before it are well
abbrev pub First : List (Type 0 × (Place → Type 0)) → Place → Type 0
First [] place = ⊥
First (part ∷ parts) place = part.1 place ⊎ (part.0 × First parts place)

-- the first item that is wrong, of those from this position on
abbrev pub WrongItem : {A : Type 0} → (Data → A → Type 0) → (Data → Place → Type 0) → ℕ → Items → Place → Type 0
WrongItem {A} P W at no_items place = ⊥
WrongItem {A} P W at (item d ds) place =
    After (codes "[" ++ (decimal at ++ codes "]")) (W d) place ⊎ (((x : A) × P d x) × WrongItem P W (suc at) ds place)

-- the value is no list, or this is its first item that is wrong
abbrev pub WrongList : {A : Type 0} → (Data → A → Type 0) → (Data → Place → Type 0) → Data → Place → Type 0
WrongList P W d place = MatchOption (as_array d) (place ≡ ([], codes "a list")) (λ ds. WrongItem P W 0 ds place)

-- what is under a key is wrong; or the key is missing, or there are no keys
abbrev pub WrongMember : Text → (Data → Place → Type 0) → Data → Place → Type 0
WrongMember key W d place = MatchOption (get key d)
    (MatchOption (as_object d) (place ≡ ([], codes "an object")) (λ ms. place.0 ≡ joined (key_text key) []))
    (λ e. After (key_text key) (W e) place)

-- what is under a key is wrong, which may be missing
abbrev pub WrongIfGiven : Text → (Data → Place → Type 0) → Data → Place → Type 0
WrongIfGiven key W d place = IsSomeAnd (get key d) (λ e. After (key_text key) (W e) place)

-- parts of an object: what is under a key, which it must have, and then a text and a list under one
abbrev pub keyed : {A : Type 0} → Text → (Data → A → Type 0) → (Data → Place → Type 0) → Data → Type 0 × (Place → Type 0)
keyed {A} key P W d = ((x : A) × Required key P d x, WrongMember key W d)

abbrev pub keyed_text : Text → Data → Type 0 × (Place → Type 0)
keyed_text key d = keyed key IsText (Itself IsText (codes "a text")) d

abbrev pub keyed_list : {A : Type 0} → Text → (Data → A → Type 0) → (Data → Place → Type 0) → Data → Type 0 × (Place → Type 0)
keyed_list key P W d = keyed key (IsListOf P) (WrongList P W) d

-- the first element of which P does not hold, and its position
abbrev pub IsFirstNot : {A : Type 0} → (A → Type 0) → List A → ℕ → A → Type 0
IsFirstNot P xs at x = (slice_get xs at ≡ Some x) × All P (take at xs) × ¬ P x
