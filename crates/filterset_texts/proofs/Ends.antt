-- The places at the ends of sequences, and the places behind some of the conditions.
use Rattle.std.proofs.Common.{rules}
use Rattle.std.proofs.Common.{◌≡◌, ◌↔◌, ℕ, ◌+◌, ◌<◌, ◌≤◌, Bool, true, false, refl, sym, ◌∙◌, ap, subst, List, [], ◌∷◌, ◌++◌, append_assoc, length, take, drop, get_or, map, Option, Some, None, IsTrue, arith, add-one}
use Rattle.std.specs.declared.{vec.Vec.Vec, alloc.Global.Global}
use Rattle.std.proofs.Math.{Bool.beq, Bool.not, Seq.take-append-add}
use Rattle.std.proofs.lemmas.{Bool.false≢true, Grind.flat_map-append}
use Rattle.std.proofs.lemmas.List.{append-nil, length-append, length-map, length-drop, take_at, drop_more, take-append-drop, get_or-drop, take_more}
use Rattle.filterset_texts.specs.declared.part.{Part.Part, Condition.Condition}
use Rattle.filterset_texts.specs.Parts.{Fits, all_place_count, place_count}
use Rattle.filterset_texts.specs.Places.{BeginsAnew, LeadsTo, parts_before, places_of, places_of_parts, places_of_sequences}

pub place_count-append : (xs ys : List (Vec Part Global)) → place_count (xs ++ ys) ≡ place_count xs + place_count ys
place_count-append [] ys = omega arith
place_count-append (x ∷ xs) ys = omega (arith, place_count-append xs ys)

pub all_place_count-append : (xs ys : List Condition) → all_place_count (xs ++ ys) ≡ all_place_count xs + all_place_count ys
all_place_count-append [] ys = omega arith
all_place_count-append (x ∷ xs) ys = omega (arith, all_place_count-append xs ys)

pub length-places_of_sequences : (xs : List (Vec Part Global)) → length (places_of_sequences xs) ≡ place_count xs
length-places_of_sequences [] = refl
length-places_of_sequences (x ∷ xs) =
    omega (arith, length-append (places_of_parts x.items) (places_of_sequences xs), length-map x.items (λ (part : Part). Some part), length-places_of_sequences xs)

pub length-places_of : (xs : List Condition) → length (places_of xs) ≡ all_place_count xs
length-places_of [] = refl
length-places_of (x ∷ xs) =
    omega (arith, length-append (places_of_sequences x.sequences.items) (places_of xs), length-places_of_sequences x.sequences.items, length-places_of xs)

-- the parts before a place, where another sequence begins
before_anew : (before : List Part) (front behind : List (Option Part)) → parts_before before (front ++ None ∷ behind) ≡ parts_before [] behind
before_anew before [] behind = refl
before_anew before (None ∷ front) behind = before_anew [] front behind
before_anew before (Some part ∷ front) behind = before_anew (before ++ part ∷ []) front behind

before_parts : (before parts : List Part) → parts_before before (map Some parts) ≡ before ++ parts
before_parts before [] = sym (append-nil before)
before_parts before (part ∷ parts) = before_parts (before ++ part ∷ []) parts ∙ append_assoc before (part ∷ []) parts

-- the parts before the last place of a sequence are all of it
pub parts_at_end : (front : List (Vec Part Global)) (sequence : Vec Part Global) (behind : List (Vec Part Global)) (more : List (Option Part)) (n : ℕ)
    → place_count front + length sequence.items + 1 ≡ n
    → parts_before [] (take n (places_of_sequences (front ++ sequence ∷ behind) ++ more)) ≡ sequence.items
parts_at_end front sequence behind more n is =
    let own : List (Option Part) = places_of_parts sequence.items in
    let first : List (Option Part) = places_of_sequences front ++ own in
    let rest : List (Option Part) = places_of_sequences behind ++ more in
    let split : places_of_sequences (front ++ sequence ∷ behind) ++ more ≡ first ++ rest =
    ap (λ p. p ++ more) (flat_map-append (λ (s : Vec Part Global). places_of_parts s.items) front (sequence ∷ behind)
    ∙ sym (append_assoc (places_of_sequences front) own (places_of_sequences behind)))
    ∙ append_assoc first (places_of_sequences behind) more in
    let count : length first ≡ n =
    omega (arith, length-append (places_of_sequences front) own, length-places_of_sequences front, length-map sequence.items (λ (part : Part). Some part), is) in
    ap (λ p. parts_before [] (take n p)) split ∙ ap (parts_before []) (take_at first rest n count)
    ∙ before_anew [] (places_of_sequences front) (map Some sequence.items) ∙ before_parts [] sequence.items

begins_append : (xs ys : List (Option Part)) → BeginsAnew xs → BeginsAnew ys → BeginsAnew (xs ++ ys)
begins_append [] ys first second = second
begins_append (None ∷ xs) ys first second = tt
begins_append (Some part ∷ xs) ys first second = absurd first

begins_sequences : (xs : List (Vec Part Global)) → BeginsAnew (places_of_sequences xs)
begins_sequences [] = tt
begins_sequences (x ∷ xs) = tt

pub begins_places : (xs : List Condition) → BeginsAnew (places_of xs)
begins_places [] = tt
begins_places (x ∷ xs) = begins_append (places_of_sequences x.sequences.items) (places_of xs) (begins_sequences x.sequences.items) (begins_places xs)

over_anew : (xs ys : List (Option Part)) (k : ℕ) → BeginsAnew ys → k < length ys → parts_before [] (take (length xs + (k + 1)) (xs ++ ys)) ≡ parts_before [] (take (k + 1) ys)
over_anew xs [] k begins short = absurd (omega (arith, short))
over_anew xs (Some part ∷ ys) k begins short = absurd begins
over_anew xs (None ∷ ys) k begins short = search (rules, arith, add-one, take-append-add, before_anew)

-- the marks of the places behind some
pub leads_behind : (xs ys : List (Option Part)) (text : List ℕ) (marks : List Bool) (n : ℕ) → BeginsAnew ys → length xs ≡ n → LeadsTo (xs ++ ys) text marks → LeadsTo ys text (drop n marks)
leads_behind xs ys text marks n begins count leads = record {
  same_length = omega (arith, length-drop n marks, leads.same_length, length-append xs ys, count);
  each = λ k short.
      let sum : n + k + 1 ≡ length xs + (k + 1) = omega (arith, count) in
      subst (λ (b : Bool). IsTrue b ↔ Fits (parts_before [] (take (k + 1) ys)) text) (sym (get_or-drop n marks k false))
      (subst (λ (p : List Part). IsTrue (get_or marks (n + k) false) ↔ Fits p text)
      (ap (λ m. parts_before [] (take m (xs ++ ys))) sum ∙ over_anew xs ys k begins short) (leads.each (n + k) (omega (arith, length-append xs ys, count, short))));
}

-- a list at one of its elements
pub at_item : {X : Type 0} (xs : List X) (i : ℕ) (x : X) → i < length xs → x ≡ get_or xs i x → take i xs ++ x ∷ drop (i + 1) xs ≡ xs
at_item xs i x short is = ap (λ r. take i xs ++ r) (ap (λ y. y ∷ drop (i + 1) xs) is ∙ sym (drop_more xs i x short)) ∙ take-append-drop i xs

pub take_item : {X : Type 0} (xs : List X) (i : ℕ) (x : X) → i < length xs → x ≡ get_or xs i x → take (i + 1) xs ≡ take i xs ++ x ∷ []
take_item xs i x short is = take_more xs i x short ∙ ap (λ y. take i xs ++ y ∷ []) (sym is)

pub place_count_more : (xs : List (Vec Part Global)) (i : ℕ) (x : Vec Part Global) → i < length xs → x ≡ get_or xs i x
    → (place_count (take i xs) + (length x.items + 1) ≡ place_count (take (i + 1) xs)) × (place_count (take (i + 1) xs) ≤ place_count xs)
place_count_more xs i x short is =
    let one : place_count (take (i + 1) xs) ≡ place_count (take i xs ++ x ∷ []) = ap place_count (take_item xs i x short is) in
    let all : place_count (take i xs ++ x ∷ drop (i + 1) xs) ≡ place_count xs = ap place_count (at_item xs i x short is) in (
      (omega (arith, one, place_count-append (take i xs) (x ∷ []))),
      (omega (arith, one, all, place_count-append (take i xs) (x ∷ []), place_count-append (take i xs) (x ∷ drop (i + 1) xs))),
    )

-- whether a text fits a sequence, by the mark of its last place
pub end_marked : (xs : List (Vec Part Global)) (i : ℕ) (x : Vec Part Global) (last : ℕ) → i < length xs → x ≡ get_or xs i x → place_count (take i xs) + length x.items ≡ last
    → (more : List (Option Part)) (text : List ℕ) (marks : List Bool) → LeadsTo (places_of_sequences xs ++ more) text marks → IsTrue (get_or marks last false) ↔ Fits x.items text
end_marked xs i x last short is place more text marks leads =
    let row : List (Option Part) = places_of_sequences xs ++ more in
    let within : last < length row = omega (arith, length-append (places_of_sequences xs) more, length-places_of_sequences xs, place_count_more xs i x short is, place) in
    let parts : parts_before [] (take (last + 1) row) ≡ x.items =
    ap (λ s. parts_before [] (take (last + 1) (places_of_sequences s ++ more))) (sym (at_item xs i x short is))
    ∙ parts_at_end (take i xs) x (drop (i + 1) xs) more (last + 1) (ap (λ n. n + 1) place) in
    subst (λ (p : List Part). IsTrue (get_or marks last false) ↔ Fits p text) parts (leads.each last within)

pub all_place_count_more : (xs : List Condition) (i : ℕ) (x : Condition) → i < length xs → x ≡ get_or xs i x
    → (all_place_count (take i xs) + place_count x.sequences.items ≡ all_place_count (take (i + 1) xs)) × (all_place_count (take (i + 1) xs) ≤ all_place_count xs)
all_place_count_more xs i x short is =
    let one : all_place_count (take (i + 1) xs) ≡ all_place_count (take i xs ++ x ∷ []) = ap all_place_count (take_item xs i x short is) in
    let all : all_place_count (take i xs ++ x ∷ drop (i + 1) xs) ≡ all_place_count xs = ap all_place_count (at_item xs i x short is) in (
      (omega (arith, one, all_place_count-append (take i xs) (x ∷ []))),
      (omega (arith, one, all, all_place_count-append (take i xs) (x ∷ []), all_place_count-append (take i xs) (x ∷ drop (i + 1) xs))),
    )

-- the marks from one condition's first place on
pub leads_from : (xs : List Condition) (i : ℕ) (x : Condition) (first : ℕ) → i < length xs → x ≡ get_or xs i x → first ≡ all_place_count (take i xs)
    → (text : List ℕ) (marks : List Bool) → LeadsTo (places_of xs) text marks → LeadsTo (places_of_sequences x.sequences.items ++ places_of (drop (i + 1) xs)) text (drop first marks)
leads_from xs i x first short is place text marks leads =
    let split : places_of xs ≡ places_of (take i xs) ++ places_of (x ∷ drop (i + 1) xs) =
    ap places_of (sym (at_item xs i x short is)) ∙ flat_map-append (λ (condition : Condition). places_of_sequences condition.sequences.items) (take i xs) (x ∷ drop (i + 1) xs) in
    leads_behind (places_of (take i xs)) (places_of (x ∷ drop (i + 1) xs)) text marks first (begins_places (x ∷ drop (i + 1) xs))
    (length-places_of (take i xs) ∙ sym place) (subst (λ (row : List (Option Part)). LeadsTo row text marks) split leads)

-- a condition is met if what one of its sequences fits is what must be
pub met_if : (fits is_matched : Bool) (P : Type 0) → not (beq fits is_matched) ≡ false → IsTrue fits ↔ P → IsTrue is_matched ↔ P
met_if true true P same fits = fits
met_if false false P same fits = fits
met_if true false P same fits = absurd (false≢true (sym same))
met_if false true P same fits = absurd (false≢true (sym same))

pub unmet_if : (fits is_matched : Bool) (P : Type 0) → not (beq fits is_matched) ≡ true → IsTrue fits ↔ P → (IsTrue is_matched ↔ P) → ⊥
unmet_if true true P unlike fits met = false≢true unlike
unmet_if false false P unlike fits met = false≢true unlike
unmet_if true false P unlike fits met = false≢true (met.1 (fits.0 refl))
unmet_if false true P unlike fits met = false≢true (fits.1 (met.0 refl))
