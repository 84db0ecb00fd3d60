-- Whether two filtersets may differ on a list, by how they differ on each binary.
use Rattle.std.proofs.Common.{◌≡◌, ◌∙◌, ◌⊎◌, ℕ, zero, suc, Bool, List, [], ◌∷◌, ◌++◌, Option, Some, length, map, ap, refl, sym, subst, inl, inr, true, false, arith}
use Rattle.std.specs.Prelude.{◌↔◌, ◌&&◌, ◌||◌, ◌==◌, IsTrue, is_none, not}
use Rattle.std.specs.{Borrow.Bor, List.AllZip, List.Any, List.list_any}
use Rattle.std.proofs.Math.Bool.{or-true}
use Rattle.std.proofs.lemmas.Bool.{Decides.nat_tests, false≢true, or_cases, or_parts}
use Rattle.filterset_expression.specs.declared.query.BinaryQuery.{BinaryQuery}
use Rattle.filterset_listing.specs.Asking.{Text}
use Rattle.filterset_listing.specs.Comparing.{Divides, IsBinaryDifference, IsUnknownOn, MayDifferOn, TellsDifference, TellsUnknown, is_of}
use Rattle.filterset_listing.specs.{ComparisonText.differs, ComparisonText.has_unknown, Groups.known_of, Listing.one_of}
use Rattle.filterset_listing.specs.{Pickers.Answers, Pickers.Picker, declared.binary.AskedBinary.AskedBinary}
use Rattle.filterset_listing.specs.declared.{comparing.BinaryDifference.BinaryDifference, groups.TestAnswer.TestAnswer}
use Rattle.filterset_listing.specs.declared.{groups.TestAnswer.TheVariants.Known, comparing.Part.Part}
use Rattle.filterset_listing.specs.declared.comparing.Part.TheVariants.{OnlyFirst, OnlySecond, Unknown}
use Rattle.filterset_listing.proofs.PickerLemmas.{answers_alone}
use Rattle.filterset_listing.specs.declared.groups.TestAnswer.TheVariants as answers

-- ---- elements that have a property

any_first : {A : Type 0} (P : A → Type 0) (x : A) (xs : List A) → P x → Any P (x ∷ xs)
any_first P x xs p = (0, x, omega arith, refl, p)

any_later : {A : Type 0} (P : A → Type 0) (x : A) (xs : List A) → Any P xs → Any P (x ∷ xs)
any_later P x xs any = (suc any.0, any.1, omega (arith, any.2), any.3, any.4)

any_cases : {A : Type 0} (P : A → Type 0) (x : A) (xs : List A) → Any P (x ∷ xs) → P x ⊎ Any P xs
any_cases P x xs (zero, y, less, at, p) = inl (subst P (sym at) p)
any_cases P x xs (suc k, y, less, at, p) = inr (k, y, omega (arith, less), at, p)

none_there : {A : Type 0} (P : A → Type 0) → ¬ Any P []
none_there P any = absurd (omega (arith, any.2))

-- a truth value that decides a fact
decided : (x : Bool) (P : Type 0) → (x ≡ true → P) → (x ≡ false → ¬ P) → IsTrue x ↔ P
decided true P gives denies = (λ e. gives refl, λ p. refl)
decided false P gives denies = (λ e. absurd (false≢true e), λ p. absurd (denies refl p))

-- a test of each element's partner finds one exactly if an element has the property
any_tells : {A B : Type 0} (R : A → B → Type 0) (P : A → Type 0) (test : B → Bool) → ((a : A) (b : B) → R a b → IsTrue (test b) ↔ P a)
    → (xs : List A) (ys : List B) → AllZip R xs ys → IsTrue (list_any test ys) ↔ Any P xs
any_tells R P test tells [] [] are = (λ e. absurd (false≢true e), λ any. absurd (none_there P any))
any_tells R P test tells [] (y ∷ ys) are = absurd are
any_tells R P test tells (x ∷ xs) [] are = absurd are
any_tells R P test tells (x ∷ xs) (y ∷ ys) (is, are) =
    let here = tells x y is in
    let later = any_tells R P test tells xs ys are in (
      λ e. elim (or_cases (test y) (list_any test ys) e) [ inl first ↦ any_first P x xs (here.0 first) | inr others ↦ any_later P x xs (later.0 others) ],
      λ any. elim (any_cases P x xs any) [ inl first ↦ ap (λ b. b || list_any test ys) (here.1 first) | inr others ↦ ap (λ b. test y || b) (later.1 others) ∙ or-true (test y) ],
    )

-- ---- lists that are empty

not_zero : (n : ℕ) → (suc n == 0) ≡ false
not_zero n = grind (arith, nat_tests)

none_of : {A B : Type 0} (f : A → B) (xs : List A) → not (length xs == 0) ≡ false → map f xs ≡ []
none_of f [] e = refl
none_of f (x ∷ xs) e = absurd (false≢true (sym e ∙ ap not (not_zero (length xs))))

some_of : {A B : Type 0} (f : A → B) (xs : List A) → not (length xs == 0) ≡ true → ¬ (map f xs ≡ [])
some_of f [] e none = false≢true e
some_of f (x ∷ xs) e none = let clash : f x ∷ map f xs ≡ [] = none in cc

-- if a test and others are none, there are no others
others_none : (b : Bool) (test : Text) (others : List Text) → one_of b test ++ others ≡ [] → others ≡ []
others_none true test others e = absurd (let clash : test ∷ others ≡ [] = e in cc)
others_none false test others e = e

-- ---- tests that are divided

-- there is one value about a test at most
abbrev pub IsFunctional : (Text → TestAnswer → Type 0) → Type 0
IsFunctional Says = (test : Text) (x y : TestAnswer) → Says test x → Says test y → known_of x ≡ known_of y

-- whether these answers about a test are of the part
abbrev are_of : Part → TestAnswer → TestAnswer → Bool
are_of part x y = is_of part (known_of x) (known_of y)

module _ (One Other : Text → TestAnswer → Type 0) where
  -- what the answers about a test of the part give
  abbrev Gives : Part → (Text → Type 0) → Type 0
  Gives part P = (test : Text) (x y : TestAnswer) → One test x → Other test y → are_of part x y ≡ true → P test

  -- what makes a test one of the part
  abbrev Makes : Part → (Text → Type 0) → Type 0
  Makes part P = (test : Text) (x y : TestAnswer) → One test x → Other test y → P test → are_of part x y ≡ true

  some_at : (P : Text → Type 0) (test : Text) (tests others : List Text) (b : Bool) → (b ≡ true → P test) → (¬ (others ≡ []) → Any P tests)
      → ¬ (one_of b test ++ others ≡ []) → Any P (test ∷ tests)
  some_at P test tests others true here later some = any_first P test tests (here refl)
  some_at P test tests others false here later some = any_later P test tests (later some)

  some_in : (part : Part) (P : Text → Type 0) → Gives part P → (tests : List Text) (parts : Part → List Text) → Divides One Other tests parts → ¬ (parts part ≡ []) → Any P tests
  some_in part P gives [] parts none some = absurd (some (none part))
  some_in part P gives (test ∷ tests) parts (x, y, rest, is_x, is_y, are, divides) some =
      some_at P test tests (rest part) (are_of part x y) (gives test x y is_x is_y) (some_in part P gives tests rest divides) (λ none. some (are part ∙ none))

  none_in : (part : Part) (P : Text → Type 0) → Makes part P → (tests : List Text) (parts : Part → List Text) → Divides One Other tests parts → parts part ≡ [] → ¬ Any P tests
  none_in part P makes [] parts none empty any = none_there P any
  none_in part P makes (test ∷ tests) parts (x, y, rest, is_x, is_y, are, divides) empty any =
      let whole = sym (are part) ∙ empty in
      elim (any_cases P test tests any) [
        | inl here ↦ (let clash : test ∷ rest part ≡ [] = ap (λ b. one_of b test ++ rest part) (sym (makes test x y is_x is_y here)) ∙ whole in cc)
        | inr later ↦ none_in part P makes tests rest divides (others_none (are_of part x y) test (rest part) whole) later
      ]

  -- the first alone picks the test, or the second
  abbrev ByFirst : Text → Type 0
  ByFirst test = One test (Known true) × Other test (Known false)

  abbrev BySecond : Text → Type 0
  BySecond test = One test (Known false) × Other test (Known true)

  abbrev Apart : Text → Type 0
  Apart test = (answer : Bool) × One test (Known answer) × Other test (Known (not answer))

  -- the answer of one of them is unknown
  abbrev IsOpen : Text → Type 0
  IsOpen test = (path : Bor Text) × (One test (answers.Unknown path) ⊎ Other test (answers.Unknown path))

  first_apart : Gives OnlyFirst Apart
  first_apart test (Known true) (Known false) one other e = (true, one, other)
  first_apart test _ _ one other e = absurd (false≢true e)

  second_apart : Gives OnlySecond Apart
  second_apart test (Known false) (Known true) one other e = (false, one, other)
  second_apart test _ _ one other e = absurd (false≢true e)

  one_open : Gives Unknown IsOpen
  one_open test (answers.Unknown path) y one other e = (path, inl one)
  one_open test (Known x) (answers.Unknown path) one other e = (path, inr other)
  one_open test (Known x) (Known y) one other e = absurd (false≢true e)

  either : (tests : List Text) → Any Apart tests → Any ByFirst tests ⊎ Any BySecond tests
  either tests (k, test, less, at, (true, one, other)) = inl (k, test, less, at, (one, other))
  either tests (k, test, less, at, (false, one, other)) = inr (k, test, less, at, (one, other))

  module _ (one_alone : IsFunctional One) (other_alone : IsFunctional Other) where
    same : (part : Part) (test : Text) (x y x' y' : TestAnswer) → One test x → Other test y → One test x' → Other test y' → are_of part x y ≡ are_of part x' y'
    same part test x y x' y' one other one' other' =
        ap (λ z. is_of part z (known_of y)) (one_alone test x x' one one') ∙ ap (is_of part (known_of x')) (other_alone test y y' other other')

    by_first : Makes OnlyFirst ByFirst
    by_first test x y one other is = same OnlyFirst test x y (Known true) (Known false) one other is.0 is.1

    by_second : Makes OnlySecond BySecond
    by_second test x y one other is = same OnlySecond test x y (Known false) (Known true) one other is.0 is.1

    is_open : Makes Unknown IsOpen
    is_open test x y one other (path, unknown) = elim unknown [
      | inl first ↦ same Unknown test x y (answers.Unknown path) y one other first other
      | inr second ↦ same Unknown test x y x (answers.Unknown path) one other one second ∙ or-true (is_none (known_of x))
    ]

    none_apart : (tests : List Text) (parts : Part → List Text) → Divides One Other tests parts → parts OnlyFirst ≡ [] → parts OnlySecond ≡ [] → ¬ Any Apart tests
    none_apart tests parts divides no_first no_second any = elim (either tests any) [
      | inl first ↦ none_in OnlyFirst ByFirst by_first tests parts divides no_first first
      | inr second ↦ none_in OnlySecond BySecond by_second tests parts divides no_second second
    ]

-- ---- binaries that nextest skipped

-- whether the answers are in a part in which they differ
abbrev are_apart : Option Bool → Option Bool → Bool
are_apart x y = (is_of OnlyFirst x y || is_of OnlySecond x y) || is_of Unknown x y

-- equal answers are not
never : (value : Bool) → are_apart (Some value) (Some value) ≡ false
never true = refl
never false = refl

-- both have this value
abbrev Decide : Picker → Picker → BinaryQuery → Bool → Type 0
Decide one other binary value = Answers one binary (Some value) × Answers other binary (Some value)

alike : (one other : Picker) (binary : BinaryQuery) (x y : Option Bool) → Answers one binary x → Answers other binary y → are_apart x y ≡ false → (value : Bool) × Decide one other binary value
alike one other binary (Some true) (Some true) is is' e = (true, (is, is'))
alike one other binary (Some false) (Some false) is is' e = (false, (is, is'))
alike one other binary _ _ is is' e = absurd (false≢true (sym e))

not_alike : (one other : Picker) (binary : BinaryQuery) (x y : Option Bool) → Answers one binary x → Answers other binary y → are_apart x y ≡ true → (value : Bool) → ¬ Decide one other binary value
not_alike one other binary x y is is' e value decide =
    let first = answers_alone one binary x value is decide.0 in
    let second = answers_alone other binary y value is' decide.1 in
    let apart : are_apart (Some value) (Some value) ≡ true = sym (ap (λ z. are_apart z y) first ∙ ap (are_apart (Some value)) second) ∙ e in
    false≢true (sym (never value) ∙ apart)

skips : (s a b c : Bool) → (((s && a) || (s && b)) || (s && c)) ≡ true → (s ≡ true) × (((a || b) || c) ≡ true)
skips true a b c e = (refl, e)
skips false a b c e = absurd (false≢true e)

settled_alone : (s a b c : Bool) → (((s && a) || (s && b)) || (s && c)) ≡ false → s ≡ true → ((a || b) || c) ≡ false
settled_alone true a b c e is = e
settled_alone false a b c e is = absurd (false≢true is)

-- ---- binaries and lists

module _ (one other : Picker) (one_alone : (binary : BinaryQuery) → IsFunctional (one.Says binary)) (other_alone : (binary : BinaryQuery) → IsFunctional (other.Says binary)) where
  may_differ : (binary : AskedBinary) (d : BinaryDifference) → IsBinaryDifference one other binary d → differs d ≡ true → MayDifferOn one other binary
  may_differ binary d (is, answer, answer', divides) e =
      let some = λ (part : Part). some_in (one.Says binary.query) (other.Says binary.query) part (Apart (one.Says binary.query) (other.Says binary.query)) in
      elim (or_cases (not (length d.first.items == 0) || not (length d.second.items == 0)) _ e) [
        | inl either_part ↦
            elim (or_cases (not (length d.first.items == 0)) (not (length d.second.items == 0)) either_part) [
              | inl first ↦ inl (some OnlyFirst (first_apart _ _) binary.tests.now _ divides (some_of (λ t. t.now) d.first.items first))
              | inr second ↦ inl (some OnlySecond (second_apart _ _) binary.tests.now _ divides (some_of (λ t. t.now) d.second.items second))
            ]
        | inr unsettled ↦
            let both = skips d.binary.is_skipped _ _ _ unsettled in
            inr (sym (ap (λ (b : AskedBinary). b.is_skipped) is) ∙ both.0, not_alike one other binary.query d.first_answer d.second_answer answer answer' both.1)
      ]

  cannot_differ : (binary : AskedBinary) (d : BinaryDifference) → IsBinaryDifference one other binary d → differs d ≡ false → ¬ MayDifferOn one other binary
  cannot_differ binary d (is, answer, answer', divides) e may =
      let none = or_parts (not (length d.first.items == 0) || not (length d.second.items == 0)) _ e in
      let tests = or_parts (not (length d.first.items == 0)) (not (length d.second.items == 0)) none.0 in
      elim may [
        | inl any ↦
            none_apart (one.Says binary.query) (other.Says binary.query) (one_alone binary.query) (other_alone binary.query) binary.tests.now _ divides
            (none_of (λ t. t.now) d.first.items tests.0) (none_of (λ t. t.now) d.second.items tests.1) any
        | inr skipped ↦
            let own = ap (λ (b : AskedBinary). b.is_skipped) is ∙ skipped.0 in
            let same_value = alike one other binary.query d.first_answer d.second_answer answer answer' (settled_alone d.binary.is_skipped _ _ _ none.1 own) in
            skipped.1 same_value.0 same_value.1
      ]

  -- the two may differ on one of the binaries exactly if a difference says so
  pub tells_difference : (binaries : List AskedBinary) (all : List BinaryDifference) → AllZip (IsBinaryDifference one other) binaries all → TellsDifference one other binaries (list_any differs all)
  tells_difference = any_tells (IsBinaryDifference one other) (MayDifferOn one other) differs
      (λ binary d is. decided (differs d) (MayDifferOn one other binary) (may_differ binary d is) (cannot_differ binary d is))

  unknown_on : (binary : AskedBinary) (d : BinaryDifference) → IsBinaryDifference one other binary d → IsTrue (has_unknown d) ↔ IsUnknownOn one other binary
  unknown_on binary d (is, answer, answer', divides) =
      let One = one.Says binary.query in
      let Other = other.Says binary.query in
      decided (has_unknown d) (IsUnknownOn one other binary)
      (λ e. some_in One Other Unknown (IsOpen One Other) (one_open One Other) binary.tests.now _ divides (some_of (λ t. t.now) d.unknown.items e))
      (λ e. none_in One Other Unknown (IsOpen One Other) (is_open One Other (one_alone binary.query) (other_alone binary.query)) binary.tests.now _ divides (none_of (λ t. t.now) d.unknown.items e))

  -- a test of the binaries is unknown to one of them exactly if a difference says so
  pub tells_unknown : (binaries : List AskedBinary) (all : List BinaryDifference) → AllZip (IsBinaryDifference one other) binaries all → TellsUnknown one other binaries (list_any has_unknown all)
  tells_unknown = any_tells (IsBinaryDifference one other) (IsUnknownOn one other) has_unknown unknown_on
