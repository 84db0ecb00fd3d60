-- Lists of entries, item by item, and the keys of objects.
use Rattle.std.proofs.Common.{◌≡◌, ℕ, zero, suc, ◌+◌, ◌<◌, ◌⊎◌, inl, inr, List, [], ◌∷◌, ◌++◌, length, get_or, map, take, subst, Contains, arith, refl, Global, String, string_bytes, Bor, Decides, Option, Some, MatchOption}
use Rattle.std.proofs.lemmas.Bool.Decides.{Decides-and, Decides-like, Decides-or}
use Rattle.std.proofs.lemmas.{List.map-id, Slice.Eq.bytes_eq-Decides}
use Rattle.std.specs.{List.list_all, Prelude.IsSomeAnd}
use Rattle.std.specs.Map as maps
use Rattle.serde_json.specs.Data.{Data, null, boolean, number, string, array, object, no_items, item, Members}
use Rattle.serde_json.specs.{Find.as_object, View.view, View.items_view, View.members_view, declared.value.Value.Value}
use Rattle.filterset_json.specs.{Paths.step_text, Places.After, Places.Place, Places.WrongItem}
use Rattle.filterset_json.specs.Shape.{Each, IsListOf, KeysAmong, is_named}
use Rattle.filterset_json.specs.declared.path.Step.TheVariants.{Item}

-- one more item, and one more entry
pub Each-push : {A : Type 0} (P : Data → A → Type 0) (vs : List Value) (ys : List A) (v : Value) (y : A) → Each P (items_view vs) ys → P (view v) y →
    Each P (items_view (vs ++ v ∷ [])) (ys ++ y ∷ [])
Each-push P [] [] v y h p = (p, tt)
Each-push P [] (z ∷ ys) v y h p = absurd h
Each-push P (w ∷ vs) [] v y h p = absurd h
Each-push P (w ∷ vs) (z ∷ ys) v y h p = (h.0, Each-push P vs ys v y h.1 p)

-- where there is an entry for each item, there is one for the item at a position
pub Each-at : {A : Type 0} (P : Data → A → Type 0) (vs : List Value) (xs : List A) (i : ℕ) (d : Value) → i < length vs → Each P (items_view vs) xs →
    (x : A) × P (view (get_or vs i d)) x
Each-at P [] xs i d lt h = absurd (omega arith)
Each-at P (v ∷ vs) [] i d lt h = absurd h
Each-at P (v ∷ vs) (x ∷ xs) zero d lt h = (x, h.0)
Each-at P (v ∷ vs) (x ∷ xs) (suc i) d lt h = Each-at P vs xs i d (omega arith) h.1

-- the first item that is wrong
pub WrongItem-at : {A : Type 0} (P : Data → A → Type 0) (W : Data → Place → Type 0) (at : ℕ) (vs : List Value) (xs : List A) (i : ℕ) (d : Value) (place : Place) → i < length vs →
    Each P (items_view (take i vs)) xs → After (step_text (Item (at + i))) (W (view (get_or vs i d))) place → WrongItem P W at (items_view vs) place
WrongItem-at P W at [] xs i d place lt h wrong = absurd (omega arith)
WrongItem-at P W at (v ∷ vs) xs zero d place lt h wrong =
    let here : at + 0 ≡ at = omega arith in
    inl (subst (λ n. After (step_text (Item n)) (W (view v)) place) here wrong)
WrongItem-at P W at (v ∷ vs) [] (suc i) d place lt h wrong = absurd h
WrongItem-at P W at (v ∷ vs) (x ∷ xs) (suc i) d place lt h wrong =
    let next : at + suc i ≡ suc at + i = omega arith in
    inr ((x, h.0), WrongItem-at P W (suc at) vs xs i d place (omega arith) h.1 (subst (λ n. After (step_text (Item n)) (W (view (get_or vs i d))) place) next wrong))

-- values that are two items, or three
pub two_items : (vs : List Value) (e f : Data) → items_view vs ≡ item e (item f no_items) → length vs ≡ 2
two_items [] e f h = cc
two_items (v ∷ []) e f h = cc
two_items (v ∷ w ∷ []) e f h = refl
two_items (v ∷ w ∷ x ∷ vs) e f h = cc

pub three_items : (vs : List Value) (e f g : Data) → items_view vs ≡ item e (item f (item g no_items)) → length vs ≡ 3
three_items [] e f g h = cc
three_items (v ∷ []) e f g h = cc
three_items (v ∷ w ∷ []) e f g h = cc
three_items (v ∷ w ∷ x ∷ []) e f g h = refl
three_items (v ∷ w ∷ x ∷ y ∷ vs) e f g h = cc

-- a list with one more element in front contains what that element is, and what the others contain
contains_in_front : {X : Type 0} (x y : X) (xs : List X) (k : ℕ) → k < length (x ∷ xs) → get_or (x ∷ xs) k y ≡ y → (x ≡ y) ⊎ Contains xs y
contains_in_front x y xs zero lt at = inl at
contains_in_front x y xs (suc k) lt at = inr (k, omega arith, at)

contains_behind : {X : Type 0} (x y : X) (xs : List X) → (x ≡ y) ⊎ Contains xs y → Contains (x ∷ xs) y
contains_behind x y xs (inl same) = (0, omega arith, same)
contains_behind x y xs (inr found) = (suc found.0, omega arith, found.2)

-- the test says whether the names contain the key
pub is_named-Decides : (names : List (Bor (List ℕ))) (key : List ℕ) → Decides (is_named names key) (Contains (map (λ name. name.now) names) key)
is_named-Decides [] key = (λ no. cc, λ found. absurd (omega arith))
is_named-Decides (name ∷ names) key =
    Decides-like _ (contains_behind name.now key (map (λ n. n.now) names))
    (λ found. contains_in_front name.now key (map (λ n. n.now) names) found.0 found.1 found.2)
    (Decides-or _ _ (bytes_eq-Decides name.now key) (is_named-Decides names key))

-- the keys of an object, tested one by one
pub keys-Decides : (names : List (Bor (List ℕ))) (es : List (String Global × Value)) →
    Decides (list_all (λ key. is_named names (string_bytes key)) (maps.keys_of es)) (KeysAmong (map (λ name. name.now) names) (members_view es))
keys-Decides names [] = (λ _. tt, λ _. refl)
keys-Decides names (e ∷ es) = Decides-and _ _ (is_named-Decides names (string_bytes e.0)) (keys-Decides names es)

-- a value with members is the object of them
pub as_object-Some : (d : Data) (ms : Members) → Some ms ≡ as_object d → d ≡ object ms
as_object-Some null ms h = cc
as_object-Some (boolean b) ms h = cc
as_object-Some (number n) ms h = cc
as_object-Some (string s) ms h = cc
as_object-Some (array ds) ms h = cc
as_object-Some (object ns) ms h = cc

-- ---- lists whose entries are seen as what they are

pub optional_items : {A : Type 0} (P : Data → A → Type 0) (o : Option Data) (xs : List A) → MatchOption o (map (λ x. x) xs ≡ []) (λ d. IsListOf P d (map (λ x. x) xs)) →
    MatchOption o (xs ≡ []) (λ d. IsListOf P d xs)
optional_items P o xs h = rw (← map-id xs) h

pub required_items : {A : Type 0} (P : Data → A → Type 0) (o : Option Data) (xs : List A) → IsSomeAnd o (λ d. IsListOf P d (map (λ x. x) xs)) →
    IsSomeAnd o (λ d. IsListOf P d xs)
required_items P o xs h = rw (← map-id xs) h
