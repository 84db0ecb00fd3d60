-- Sieves, element by element.
use Rattle.std.proofs.Common.{◌≡◌, ◌<◌, ◌+◌, ◌↔◌, ℕ, Bool, true, false, cond, List, [], ◌∷◌, ◌++◌, length, map, get_or, take, ap, refl, sym, ◌∙◌, subst}
use Rattle.std.specs.Prelude.{filter}
use Rattle.std.proofs.lemmas.{Bool.false≢true, List.append-nil, List.map-append, List.Elements.filter_more}
use Rattle.filterset_offers.specs.Sieves.{Selects, SelectsAs, Sieves, taken_if}
use Rattle.filterset_offers.specs.Sieves.Sieves.{left, no_more, taken}

-- one list behind another, and what comes of both
pub Sieves-then : {A : Type 0} (In Out : A → Type 0) (xs ys more found : List A) → Sieves In Out xs ys → Sieves In Out more found
    → Sieves In Out (xs ++ more) (ys ++ found)
Sieves-then In Out xs ys more found no_more last = last
Sieves-then In Out xs ys more found (taken {x} {xs = zs} {ys = ws} is are) last = taken is (Sieves-then In Out zs ws more found are last)
Sieves-then In Out xs ys more found (left {x} {xs = zs} {ys = ws} is are) last = left is (Sieves-then In Out zs ws more found are last)

-- the next element is taken
pub sieve-taken : {A B : Type 0} (In Out : B → Type 0) (f : A → B) (rows : List B) (x : A) (found new : List A)
    → new ≡ found ++ x ∷ [] → Sieves In Out rows (map f found) → In (f x) → Sieves In Out (rows ++ f x ∷ []) (map f new)
sieve-taken {A = A} In Out f rows x found new pushed are is =
    let P : List A → Type 0 = λ ns. Sieves In Out (rows ++ f x ∷ []) (map f ns) in
    subst P (sym pushed) (rw (map-append f found (x ∷ [])) (Sieves-then In Out rows (map f found) (f x ∷ []) (f x ∷ []) are (taken is no_more)))

-- the next element is left out
pub sieve-left : {B : Type 0} (In Out : B → Type 0) (rows found : List B) (row : B) → Sieves In Out rows found → Out row
    → Sieves In Out (rows ++ row ∷ []) found
sieve-left {B = B} In Out rows found row are is =
    let P : List B → Type 0 = λ ys. Sieves In Out (rows ++ row ∷ []) ys in
    subst P (append-nil found) (Sieves-then In Out rows found (row ∷ []) [] are (left is no_more))

-- of exactly those elements for which a fact holds
pub Selects-taken : {A B : Type 0} (In : B → Type 0) (f : A → B) (rows : List B) (x : A) (found new : List A)
    → new ≡ found ++ x ∷ [] → Selects In rows (map f found) → In (f x) → Selects In (rows ++ f x ∷ []) (map f new)
Selects-taken In = sieve-taken In (λ y. ¬ In y)

pub Selects-left : {B : Type 0} (In : B → Type 0) (rows found : List B) (row : B) → Selects In rows found → ¬ In row
    → Selects In (rows ++ row ∷ []) found
Selects-left In = sieve-left In (λ y. ¬ In y)

sieve-same : {A : Type 0} (P Q : A → Type 0) → ((x : A) → P x ↔ Q x) → (xs found : List A) → Selects P xs found → Selects Q xs found
sieve-same P Q same xs found no_more = no_more
sieve-same P Q same xs found (taken {x} {xs = zs} {ys = ws} is are) = taken ((same x).0 is) (sieve-same P Q same zs ws are)
sieve-same P Q same xs found (left {x} {xs = zs} {ys = ws} is are) = left (λ q. is ((same x).1 q)) (sieve-same P Q same zs ws are)

-- the next element is one, and what it is called is added
pub as-taken : {A B C : Type 0} (In : A → Type 0) (name : A → B) (f : C → B) (xs : List A) (x : A) (old new : List C) (n : C)
    → new ≡ old ++ n ∷ [] → f n ≡ name x → SelectsAs In name xs (map f old) → In x → SelectsAs In name (xs ++ x ∷ []) (map f new)
as-taken In name f xs x old new n pushed called are is =
    let same = are.2 in
    let next : map f old ++ f n ∷ [] ≡ map name are.0 ++ name x ∷ [] = rw (same, called) refl in (
      are.0 ++ x ∷ [],
      Sieves-then In (λ y. ¬ In y) xs are.0 (x ∷ []) (x ∷ []) are.1 (taken is no_more),
      ap (map f) pushed ∙ map-append f old (n ∷ []) ∙ next ∙ sym (map-append name are.0 (x ∷ [])),
    )

-- the next element is none
pub as-left : {A B : Type 0} (In : A → Type 0) (name : A → B) (xs : List A) (x : A) (names : List B)
    → SelectsAs In name xs names → ¬ In x → SelectsAs In name (xs ++ x ∷ []) names
as-left In name xs x names are is = (are.0, Selects-left In xs are.0 x are.1 is, are.2)

-- the next element is one or not, as a truth value says
pub as-next : {A B : Type 0} (In : A → Type 0) (name : A → B) (xs : List A) (x : A) (names : List B) (b : Bool)
    → (b ≡ true → In x) → (In x → b ≡ true) → SelectsAs In name xs names
    → SelectsAs In name (xs ++ x ∷ []) (names ++ taken_if b (name x))
as-next In name xs x names true to from are =
    let same = are.2 in
    let next : names ++ name x ∷ [] ≡ map name are.0 ++ name x ∷ [] = rw same refl in (
      are.0 ++ x ∷ [],
      Sieves-then In (λ y. ¬ In y) xs are.0 (x ∷ []) (x ∷ []) are.1 (taken (to refl) no_more),
      next ∙ sym (map-append name are.0 (x ∷ [])),
    )
as-next In name xs x names false to from are =
    subst (SelectsAs In name (xs ++ x ∷ [])) (sym (append-nil names)) (as-left In name xs x names are (λ is. false≢true (from is)))

-- the same elements are selected by a fact that says the same
pub as-same : {A B : Type 0} (P Q : A → Type 0) (name : A → B) → ((x : A) → P x ↔ Q x) → (xs : List A) (names : List B)
    → SelectsAs P name xs names → SelectsAs Q name xs names
as-same P Q name same xs names are = (are.0, sieve-same P Q same xs are.0 are.1, are.2)

-- what is called so of the elements that a test passes, with the next element
pub called_more : {A B : Type 0} (name : A → B) (test : A → Bool) (xs : List A) (i : ℕ) (d : A) → i < length xs
    → map name (filter test (take (i + 1) xs)) ≡ map name (filter test (take i xs)) ++ taken_if (test (get_or xs i d)) (name (get_or xs i d))
called_more name test xs i d lt =
    ap (map name) (filter_more test xs i d lt) ∙ by (test (get_or xs i d))
  where
    by : (b : Bool) → map name (filter test (take i xs) ++ cond b (get_or xs i d ∷ []) [])
        ≡ map name (filter test (take i xs)) ++ taken_if b (name (get_or xs i d))
    by true = map-append name (filter test (take i xs)) (get_or xs i d ∷ [])
    by false = map-append name (filter test (take i xs)) []
