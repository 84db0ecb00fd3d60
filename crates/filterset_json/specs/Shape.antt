-- Shapes of JSON values.
use Rattle.std.specs.Prelude.{◌≡◌, ℕ, Bool, List, [], ◌∷◌, Contains, Option, None, Some, IsSomeAnd, MatchOption}
use Rattle.std.specs.{Borrow.Bor, List.list_any, Str.bytes_eq}
use Rattle.serde_json.specs.Data.{Data, null, boolean, number, string, array, object, Items, no_items, item, Members, no_members, member, unsigned}
use Rattle.serde_json.specs.Find.{get}
use Rattle.filterset_graph.specs.{Platforms.platform_text, declared.package.BuildPlatform.BuildPlatform}

-- a text, by its bytes
abbrev pub Text : Type 0
Text = List ℕ

-- the value is this text
abbrev pub IsText : Data → Text → Type 0
IsText d text = d ≡ string text

-- the value is true or false, and this is which
abbrev pub IsBoolean : Data → Bool → Type 0
IsBoolean d b = d ≡ boolean b

-- the value is this whole number
abbrev pub IsNumber : Data → ℕ → Type 0
IsNumber d n = d ≡ number (unsigned n)

-- the value is the platform's name
abbrev pub IsPlatform : Data → BuildPlatform → Type 0
IsPlatform d platform = IsText d (platform_text platform)

-- P holds of each item and the entry at its position, and there are as many of both
abbrev pub Each : {A : Type 0} → (Data → A → Type 0) → Items → List A → Type 0
Each P no_items [] = Unit {0}
Each P no_items (x ∷ xs) = ⊥
Each P (item d ds) [] = ⊥
Each P (item d ds) (x ∷ xs) = P d x × Each P ds xs

-- the value is a list, and P holds of each item and its entry
abbrev pub IsListOf : {A : Type 0} → (Data → A → Type 0) → Data → List A → Type 0
IsListOf P d xs = (ds : Items) × (d ≡ array ds) × Each P ds xs

-- the value is null and there is no entry, or it stands for the entry
abbrev pub IsNullOr : {A : Type 0} → (Data → A → Type 0) → Data → Option A → Type 0
IsNullOr P d None = d ≡ null
IsNullOr P d (Some x) = P d x

-- the value is a list of two items, and P holds of the first one and its entry, and Q of the second one and its entry
abbrev pub IsPair : {A B : Type 0} → (Data → A → Type 0) → (Data → B → Type 0) → Data → A × B → Type 0
IsPair P Q d pair = (e : Data) × (f : Data) × (d ≡ array (item e (item f no_items))) × P e pair.0 × Q f pair.1

-- the same of a list of three items
abbrev pub IsTriple : {A B C : Type 0} → (Data → A → Type 0) → (Data → B → Type 0) → (Data → C → Type 0) → Data
    → A × B × C → Type 0
IsTriple P Q R d triple = (e : Data) × (f : Data) × (g : Data)
    × (d ≡ array (item e (item f (item g no_items)))) × P e triple.0 × Q f triple.1 × R g triple.2

-- each key is one of these names
abbrev pub KeysAmong : List Text → Members → Type 0
KeysAmong names no_members = Unit {0}
KeysAmong names (member key d ms) = Contains names key × KeysAmong names ms

-- the value is an object that has no other keys than these
abbrev pub IsObjectWith : List Text → Data → Type 0
IsObjectWith names d = (ms : Members) × (d ≡ object ms) × KeysAmong names ms

-- whether the key is one of these names, as a test
abbrev pub is_named : List (Bor Text) → Text → Bool
is_named names key = list_any (λ name. bytes_eq name.now key) names

-- P holds of what stands under the key, and of the entry
abbrev pub Required : {A : Type 0} → Text → (Data → A → Type 0) → Data → A → Type 0
Required key P d x = IsSomeAnd (get key d) (λ e. P e x)

-- the same, or the key is missing and the entry is the default
abbrev pub Optional : {A : Type 0} → Text → (Data → A → Type 0) → A → Data → A → Type 0
Optional key P default d x = MatchOption (get key d) (x ≡ default) (λ e. P e x)

-- the same, or the key is missing and there is no entry
abbrev pub Given : {A : Type 0} → Text → (Data → A → Type 0) → Data → Option A → Type 0
Given key P d o = MatchOption (get key d) (o ≡ None) (λ e. IsSomeAnd o (P e))
