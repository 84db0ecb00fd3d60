-- Shapes of objects in which any key may be, and paths.
use Rattle.std.specs.Prelude.{◌≡◌, ◌⊎◌, ◌++◌, ℕ, List, [], ◌∷◌, MatchOption, codes, decimal}
use Rattle.serde_json.specs.{Data.Data, Data.object, Data.Members, Data.no_members, Data.member, Find.as_object}
use Rattle.filterset_json.specs.{Paths.key_text, Places.After, Places.Place, Shape.Text}

-- P holds of each key, what stands under it and the entry at its position, and there are as many of both
abbrev pub EachMember : {A : Type 0} → (Text → Data → A → Type 0) → Members → List A → Type 0
EachMember P no_members [] = Unit {0}
EachMember P no_members (x ∷ xs) = ⊥
EachMember P (member key d ms) [] = ⊥
EachMember P (member key d ms) (x ∷ xs) = P key d x × EachMember P ms xs

-- the value is an object, and P holds of each key, what stands under it and its entry
abbrev pub IsObjectOf : {A : Type 0} → (Text → Data → A → Type 0) → Data → List A → Type 0
IsObjectOf P d xs = (ms : Members) × (d ≡ object ms) × EachMember P ms xs

-- the first member that is wrong
abbrev pub WrongMembers : {A : Type 0} → (Text → Data → A → Type 0) → (Text → Data → Place → Type 0) → Members → Place → Type 0
WrongMembers P W no_members place = ⊥
WrongMembers {A} P W (member key d ms) place =
    After (key_text key) (W key d) place ⊎ (((x : A) × P key d x) × WrongMembers P W ms place)

-- the value is no object, or this is its first member that is wrong
abbrev pub WrongObject : {A : Type 0} → (Text → Data → A → Type 0) → (Text → Data → Place → Type 0) → Data → Place → Type 0
WrongObject P W d place = MatchOption (as_object d) (place ≡ ([], codes "an object")) (λ ms. WrongMembers P W ms place)

-- the path to the item at a position of what is at a path
abbrev pub item_path : Text → ℕ → Text
item_path path at = path ++ (codes "[" ++ (decimal at ++ codes "]"))
