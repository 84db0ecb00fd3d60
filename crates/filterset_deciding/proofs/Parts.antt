-- Texts that meet demands: if one does, then so does that of all parts, with a free character between them.
use Rattle.std.proofs.Common.{◌≡◌, ◌↔◌, ◌∙◌, ◌<◌, ℕ, Bool, true, false, not, refl, sym, ap, subst, List, [], ◌∷◌, ◌++◌, take, drop, length, get_or, ◌+◌, append_assoc, inl, inr, ⊎_elim, IsTrue}
use Rattle.std.proofs.lemmas.{Bool.false≢true, Grind.flat_map-append, List.append-nil, List.take-append-drop}
use Rattle.std.proofs.lemmas.List.{Concat.flat_map-cons, Elements.Contains-append_left, Elements.Contains-append_right}
use Rattle.std.specs.{List.AllByRecursion, List.flat_map, Prelude.Contains, Prelude.◌⊎◌, Str.Iter.HasSubslice}
use Rattle.filterset_matchers.specs.Equality.{Compared, Equal, Contains as Contains', Glob, Regex, compared}
use Rattle.filterset_matchers.specs.Matcher.{ByComparing, Matcher, MatchesName}
use Rattle.filterset_matchers.specs.Matcher as matcher
use Rattle.filterset_deciding.specs.Texts.{AreComparisons, AreSimple, HasUnsearched, IsAmong, IsEqual, IsFreeOf, IsMetBy, IsSimple, IsUnsearched, Meets, NoneEqual, joined, matcher_in, part, part_of}
use Rattle.filterset_deciding.specs.declared.demand.Demand.{Demand}
use Rattle.filterset_deciding.proofs.Agreeing.{take_one}
use Rattle.filterset_deciding.proofs.Doubts.{contains_first, contains_later, each_weaker, of_each}
use Rattle.filterset_deciding.proofs.Rules.{contains_cases, contains_none, part_of_part}

-- ---- parts of texts

nil_within : (xs : List ℕ) → HasSubslice xs []
nil_within xs = ([], xs, refl)

within_later : (x : ℕ) (xs n : List ℕ) → HasSubslice xs n → HasSubslice (x ∷ xs) n
within_later x xs n (a, b, e) = (x ∷ a, b, ap (λ z. x ∷ z) e)

within_append_right : (xs ys n : List ℕ) → HasSubslice ys n → HasSubslice (xs ++ ys) n
within_append_right [] ys n h = h
within_append_right (x ∷ xs) ys n h = within_later x (xs ++ ys) n (within_append_right xs ys n h)

within_append_left : (xs ys n : List ℕ) → HasSubslice xs n → HasSubslice (xs ++ ys) n
within_append_left xs ys n (a, b, e) =
    (a, b ++ ys, ap (λ z. z ++ ys) e ∙ append_assoc a (n ++ b) ys ∙ ap (λ z. a ++ z) (append_assoc n b ys))

head_same : (x y : ℕ) (xs ys : List ℕ) → x ∷ xs ≡ y ∷ ys → x ≡ y
head_same x y xs ys e = cc

tail_same : (x y : ℕ) (xs ys : List ℕ) → x ∷ xs ≡ y ∷ ys → xs ≡ ys
tail_same x y xs ys e = cc

-- a text without the character that begins a longer one, begins what is before the character
begins_before : (c : ℕ) (n y xs ys : List ℕ) → ¬ Contains n c → xs ++ c ∷ ys ≡ n ++ y → (z : List ℕ) × (xs ≡ n ++ z)
begins_before c [] y xs ys free e = (xs, refl)
begins_before c (d ∷ n) y [] ys free e = absurd (free (subst (Contains (d ∷ n)) (sym (head_same c d ys (n ++ y) e)) (contains_first d n)))
begins_before c (d ∷ n) y (x ∷ xs) ys free e =
    let later = begins_before c n y xs ys (λ h. free (contains_later c d n h)) (tail_same x d (xs ++ c ∷ ys) (n ++ y) e) in
    (later.0, ap (λ z. x ∷ z) later.1 ∙ ap (λ z. z ∷ (n ++ later.0)) (head_same x d (xs ++ c ∷ ys) (n ++ y) e))

-- a text without the character lies before it or behind it
beside : (c : ℕ) (a xs ys n b : List ℕ) → ¬ Contains n c → xs ++ c ∷ ys ≡ a ++ (n ++ b) → HasSubslice xs n ⊎ HasSubslice ys n
beside c [] xs ys n b free e = let front = begins_before c n b xs ys free e in inl ([], front.0, front.1)
beside c (d ∷ a) [] ys n b free e = inr (a, b, tail_same c d ys (a ++ (n ++ b)) e)
beside c (d ∷ a) (x ∷ xs) ys n b free e =
    ⊎_elim (λ h. inl (within_later x xs n h)) (λ h. inr h) (beside c a xs ys n b free (tail_same x d (xs ++ c ∷ ys) (a ++ (n ++ b)) e))

within_beside : (c : ℕ) (xs ys n : List ℕ) → ¬ Contains n c → HasSubslice (xs ++ c ∷ ys) n → HasSubslice xs n ⊎ HasSubslice ys n
within_beside c xs ys n free (a, b, e) = beside c a xs ys n b free e

none_left : (a n b : List ℕ) → [] ≡ a ++ (n ++ b) → n ≡ []
none_left [] [] b e = refl
none_left [] (d ∷ n) b e = absurd (let clash : [] ≡ d ∷ (n ++ b) = e in cc)
none_left (x ∷ a) n b e = absurd (let clash : [] ≡ x ∷ (a ++ (n ++ b)) = e in cc)

within_none : (ys n : List ℕ) → HasSubslice [] n → HasSubslice ys n
within_none ys n (a, b, e) = subst (HasSubslice ys) (sym (none_left a n b e)) (nil_within ys)

-- behind the character that comes first
within_behind : (c : ℕ) (ys n : List ℕ) → ¬ Contains n c → HasSubslice (c ∷ ys) n → HasSubslice ys n
within_behind c ys n free h = ⊎_elim (λ none. within_none ys n none) (λ later. later) (within_beside c [] ys n free h)

-- ---- the text of all parts

joined-cons : (c : ℕ) (d : Demand) (ds : List Demand) → joined c (d ∷ ds) ≡ part_of c d ++ joined c ds
joined-cons c d ds = ap (λ z. z ++ c ∷ []) (flat_map-cons (part_of c) d ds) ∙ append_assoc (part_of c d) (flat_map (part_of c) ds) (c ∷ [])

abbrev Begins : ℕ → List ℕ → Type 0
Begins c xs = (rest : List ℕ) × (xs ≡ c ∷ rest)

part_begins : (c : ℕ) (m : Matcher) (b : Bool) (xs : List ℕ) → Begins c xs → Begins c (part c m b ++ xs)
part_begins c (matcher.Contains v i) true xs begins = (v ++ xs, refl)
part_begins c (matcher.Contains v i) false xs begins = begins
part_begins c (matcher.Equal v i) b xs begins = begins
part_begins c (matcher.Glob own tokens i) b xs begins = begins
part_begins c (matcher.Regex pattern) b xs begins = begins

joined_begins : (c : ℕ) (ds : List Demand) → Begins c (joined c ds)
joined_begins c [] = ([], refl)
joined_begins c (d ∷ ds) = subst (Begins c) (sym (joined-cons c d ds)) (part_begins c (matcher_in d) d.is_matched (joined c ds) (joined_begins c ds))

-- what is in a part, or behind it
part_within : (c : ℕ) (t : List ℕ) (m : Matcher) (b : Bool) (xs n : List ℕ) → Begins c xs → (IsTrue b ↔ MatchesName m t) → ¬ Contains n c
    → (HasSubslice xs n → HasSubslice t n) → HasSubslice (part c m b ++ xs) n → HasSubslice t n
part_within c t (matcher.Contains v i) true xs n begins met free others h =
    let inner : HasSubslice (v ++ c ∷ begins.0) n = subst (λ z. HasSubslice (v ++ z) n) begins.1 (within_behind c (v ++ xs) n free h) in
    ⊎_elim (λ part. part_of_part t v n (met.0 refl) part)
    (λ later. others (subst (λ z. HasSubslice z n) (sym begins.1) (within_later c begins.0 n later))) (within_beside c v begins.0 n free inner)
part_within c t (matcher.Contains v i) false xs n begins met free others h = others h
part_within c t (matcher.Equal v i) b xs n begins met free others h = others h
part_within c t (matcher.Glob own tokens i) b xs n begins met free others h = others h
part_within c t (matcher.Regex pattern) b xs n begins met free others h = others h

-- what is in the text of all parts and has not the character, is in each text that meets the demands
joined_within : (c : ℕ) (t : List ℕ) (ds : List Demand) → Meets t ds → (n : List ℕ) → ¬ Contains n c → HasSubslice (joined c ds) n → HasSubslice t n
joined_within c t [] met n free h = within_none t n (within_behind c [] n free h)
joined_within c t (d ∷ ds) met n free h =
    part_within c t (matcher_in d) d.is_matched (joined c ds) n (joined_begins c ds) met.0 free (joined_within c t ds met.1 n free)
    (subst (λ z. HasSubslice z n) (joined-cons c d ds) h)

own_part : (c : ℕ) (v : List ℕ) (i : Bool) (m : Matcher) (b : Bool) → m ≡ matcher.Contains v i → b ≡ true → part c m b ≡ c ∷ v
own_part c v i m b e f = ap (λ z. part c z b) e ∙ ap (λ z. part c (matcher.Contains v i) z) f

joined_has : (c : ℕ) (ds : List Demand) (d : Demand) (v : List ℕ) (i : Bool) → Contains ds d → matcher_in d ≡ matcher.Contains v i → d.is_matched ≡ true
    → HasSubslice (joined c ds) v
joined_has c [] d v i h m b = absurd (contains_none d h)
joined_has c (e ∷ ds) d v i h m b =
    let own : HasSubslice (part_of c d) v = subst (λ z. HasSubslice z v) (sym (own_part c v i (matcher_in d) d.is_matched m b)) (c ∷ [], [], ap (λ z. c ∷ z) (sym (append-nil v))) in
    let whole : HasSubslice (part_of c e ++ joined c ds) v =
    ⊎_elim (λ same. subst (λ z. HasSubslice (part_of c z ++ joined c ds) v) (sym same) (within_append_left (part_of c d) (joined c ds) v own))
    (λ later. within_append_right (part_of c e) (joined c ds) v (joined_has c ds d v i later m b)) (contains_cases d e ds h) in
    subst (λ z. HasSubslice z v) (sym (joined-cons c e ds)) whole

joined_has_character : (c : ℕ) (ds : List Demand) → Contains (joined c ds) c
joined_has_character c ds = Contains-append_right (flat_map (part_of c) ds) (c ∷ []) c (contains_first c [])

one_met : (c : ℕ) (t j : List ℕ) (m : Matcher) (b : Bool) → ((v : List ℕ) (i : Bool) → m ≡ matcher.Contains v i → b ≡ true → HasSubslice j v) → Contains j c
    → ((n : List ℕ) → ¬ Contains n c → HasSubslice j n → HasSubslice t n) → (IsTrue b ↔ MatchesName m t)
    → ByComparing m → (b ≡ false → IsFreeOf c m) → (b ≡ true → ¬ IsEqual m) → IsTrue b ↔ MatchesName m j
one_met c t j (matcher.Contains v i) true has own within met compares free unequal = (λ e. has v i refl refl, λ h. refl)
one_met c t j (matcher.Contains v i) false has own within met compares free unequal = (λ e. absurd (false≢true e), λ h. met.1 (within v (free refl) h))
one_met c t j (matcher.Equal v i) true has own within met compares free unequal = absurd (unequal refl tt)
one_met c t j (matcher.Equal v i) false has own within met compares free unequal =
    (λ e. absurd (false≢true e), λ same. absurd (free refl (subst (λ z. Contains z c) same own)))
one_met c t j (matcher.Glob own_text tokens i) b has own within met compares free unequal = absurd compares
one_met c t j (matcher.Regex pattern) b has own within met compares free unequal = absurd compares

each_from : {A : Type 0} (P : A → Type 0) (xs : List A) → ((x : A) → Contains xs x → P x) → AllByRecursion P xs
each_from P [] all = tt
each_from P (x ∷ xs) all = (all x (contains_first x xs), each_from P xs (λ y h. all y (contains_later y x xs h)))

-- if a text meets the demands, so does that of all parts
pub joined_meets : (c : ℕ) (t : List ℕ) (ds : List Demand) → AreSimple c ds → NoneEqual ds → Meets t ds → Meets (joined c ds) ds
joined_meets c t ds simple unequal met =
    let J = joined c ds in
    each_from (IsMetBy J) ds (λ d has.
    let is_simple = of_each (IsSimple c) ds d simple has in
    one_met c t J (matcher_in d) d.is_matched (λ v i m b. joined_has c ds d v i has m b) (joined_has_character c ds) (joined_within c t ds met)
    (of_each (IsMetBy t) ds d met has) is_simple.0 is_simple.1 (of_each (λ e. e.is_matched ≡ true → ¬ IsEqual (matcher_in e)) ds d unequal has))

both_each : {A : Type 0} (P Q : A → Type 0) (xs : List A) → AllByRecursion P xs → AllByRecursion Q xs → AllByRecursion (λ x. P x × Q x) xs
both_each P Q [] all more = tt
both_each P Q (x ∷ xs) all more = ((all.0, more.0), both_each P Q xs all.1 more.1)

-- comparisons are simple for a printable character
pub simple_for : (ds : List Demand) → AreComparisons ds → (c : ℕ) × (32 < c) × (c < 127) × AreSimple c ds
simple_for ds are = (
  are.free.0,
  are.free.1,
  are.free.2,
  both_each (λ d. ByComparing (matcher_in d)) (λ d. d.is_matched ≡ false → IsFreeOf are.free.0 (matcher_in d)) ds are.compare are.free.3,
)

-- ---- one more demand

pub flat_map_more : {A : Type 0} (f : A → List ℕ) (xs : List A) (i : ℕ) (x : A) → i < length xs → get_or xs i x ≡ x
    → flat_map f (take (i + 1) xs) ≡ flat_map f (take i xs) ++ f x
flat_map_more f xs i x lt at =
    ap (flat_map f) (take_one xs i x lt at) ∙ flat_map-append f (take i xs) (x ∷ []) ∙ ap (λ z. flat_map f (take i xs) ++ z) (flat_map-cons f x [] ∙ append-nil (f x))

-- ---- demands that say the same

abbrev ComparesTexts : Compared → Type 0
ComparesTexts (Equal value implicit) = Unit {0}
ComparesTexts (Contains' value implicit) = Unit {0}
ComparesTexts (Glob tokens) = ⊥
ComparesTexts (Regex pattern) = ⊥

compares_same : (m : Matcher) → ByComparing m ≡ ComparesTexts (compared m)
compares_same (matcher.Equal value implicit) = refl
compares_same (matcher.Contains value implicit) = refl
compares_same (matcher.Glob own tokens implicit) = refl
compares_same (matcher.Regex pattern) = refl

abbrev IsFreeIn : ℕ → Compared → Type 0
IsFreeIn c (Equal value implicit) = ¬ Contains value c
IsFreeIn c (Contains' value implicit) = ¬ Contains value c
IsFreeIn c (Glob tokens) = Unit {0}
IsFreeIn c (Regex pattern) = Unit {0}

free_same : (c : ℕ) (m : Matcher) → IsFreeOf c m ≡ IsFreeIn c (compared m)
free_same c (matcher.Equal value implicit) = refl
free_same c (matcher.Contains value implicit) = refl
free_same c (matcher.Glob own tokens implicit) = refl
free_same c (matcher.Regex pattern) = refl

along : {A B : Type 0} → A ≡ B → A → B
along e x = let P : Type 0 → Type 0 = λ X. X in subst P e x

pub among_compares : (kept : List Demand) (d : Demand) → AllByRecursion (λ e. ByComparing (matcher_in e)) kept → IsAmong kept d → ByComparing (matcher_in d)
among_compares kept d all among =
    let own = of_each (λ e. ByComparing (matcher_in e)) kept among.0 all among.1 in
    along (sym (compares_same (matcher_in d))) (subst ComparesTexts among.3 (along (compares_same (matcher_in among.0)) own))

pub among_free : (c : ℕ) (kept : List Demand) (d : Demand) → AllByRecursion (λ e. e.is_matched ≡ false → IsFreeOf c (matcher_in e)) kept → IsAmong kept d
    → d.is_matched ≡ false → IsFreeOf c (matcher_in d)
among_free c kept d all among none =
    let own = of_each (λ e. e.is_matched ≡ false → IsFreeOf c (matcher_in e)) kept among.0 all among.1 (among.2 ∙ none) in
    along (sym (free_same c (matcher_in d))) (subst (IsFreeIn c) among.3 (along (free_same c (matcher_in among.0)) own))

-- demands that are all among others are comparisons if those are
pub among_comparisons : (kept all : List Demand) → AllByRecursion (IsAmong kept) all → AreComparisons kept → AreComparisons all
among_comparisons kept all among are = record {
  compare = each_weaker (IsAmong kept) (λ d. ByComparing (matcher_in d)) all (λ d is. among_compares kept d are.compare is) among;
  free = (
    are.free.0,
    are.free.1,
    are.free.2,
    each_weaker (IsAmong kept) (λ d. d.is_matched ≡ false → IsFreeOf are.free.0 (matcher_in d)) all (λ d is. among_free are.free.0 kept d are.free.3 is) among,
  );
}

-- whether a matcher is searched depends on what is compared of it
abbrev IsUnsearchedIn : Compared → Type 0
IsUnsearchedIn (Equal value implicit) = IsUnsearched (matcher.Equal value implicit)
IsUnsearchedIn (Contains' value implicit) = IsUnsearched (matcher.Contains value implicit)
IsUnsearchedIn (Glob tokens) = IsUnsearched (matcher.Glob [] tokens false)
IsUnsearchedIn (Regex pattern) = IsUnsearched (matcher.Regex pattern)

unsearched_same : (m : Matcher) → IsUnsearched m ≡ IsUnsearchedIn (compared m)
unsearched_same (matcher.Equal value implicit) = refl
unsearched_same (matcher.Contains value implicit) = refl
unsearched_same (matcher.Glob own tokens implicit) = refl
unsearched_same (matcher.Regex pattern) = refl

-- if one of all demands is not searched, then so is one of those that they are among
pub among_unsearched : (kept all : List Demand) → AllByRecursion (IsAmong kept) all → HasUnsearched all → HasUnsearched kept
among_unsearched kept all among (d, has, is) =
    let own = of_each (IsAmong kept) all d among has in
    let same = subst IsUnsearchedIn (sym own.3) (along (unsearched_same (matcher_in d)) is) in
    (own.0, own.1, along (sym (unsearched_same (matcher_in own.0))) same)

pub among_left : (kept more : List Demand) (d : Demand) → IsAmong kept d → IsAmong (kept ++ more) d
among_left kept more d among = (among.0, Contains-append_left kept more among.0 among.1, among.2, among.3)

pub among_taken : (n : ℕ) (kept : List Demand) (d : Demand) → IsAmong (take n kept) d → IsAmong kept d
among_taken n kept d among = subst (λ xs. IsAmong xs d) (take-append-drop n kept) (among_left (take n kept) (drop n kept) d among)

pub among_own : (kept : List Demand) (d : Demand) → IsAmong (kept ++ d ∷ []) d
among_own kept d = (d, Contains-append_right kept (d ∷ []) d (contains_first d []), refl, refl)

pub not_hit : (hit : Bool) (P : Type 0) → (IsTrue hit ↔ P) → IsTrue (not hit) ↔ (¬ P)
not_hit true P h = (λ e. absurd (false≢true e), λ n. absurd (n (h.0 refl)))
not_hit false P h = (λ e p. false≢true (h.1 p), λ n. refl)
