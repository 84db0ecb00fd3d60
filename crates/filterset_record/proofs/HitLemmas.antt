-- Names in the text of all names.
use Rattle.std.proofs.Common.{◌≡◌, ◌+◌, ◌-◌, ◌<◌, ◌≤◌, ◌==◌, ◌&&◌, ◌||◌, ℕ, List, [], ◌∷◌, ◌++◌, length, take, drop, get_or, refl, ap, sym, subst, ◌∙◌, ⊎_elim, inl, inr, arith, string_bytes}
use Rattle.std.proofs.Math.{Dec.leb, Seq.take-add, Seq.take-length}
use Rattle.std.proofs.lemmas.{Bool.cases_lt, Bool.le-leb, Bool.leb-true, Grind.flat_map-append, Grind.same_number_lists}
use Rattle.std.proofs.lemmas.List.{append-nil, get_or-drop, get_or-take, length-append, length-drop, length-take-le, take_more, take_rest}
use Rattle.std.proofs.lemmas.List.{Concat.get_or-flat_map, Folds.length-flat_map-take}
use Rattle.std.specs.{Borrow.Bor, Str.Iter.HasSubslice}
use Rattle.filterset_graph.specs.declared.binary.TestCaseName.{TestCaseName}
use Rattle.filterset_matchers.specs.Substring.{StandsAt}
use Rattle.filterset_matchers.proofs.Substrings.{byte_of, empty_of, somewhere_stands, stands_somewhere}
use Rattle.memchr.specs.Find.{OccursAt, NoneBefore, Nowhere}
use Rattle.filterset_record.specs.{Bits.bit_of, Columns.names_of, Columns.IsAt, Searching.AnsweredSoFar}
use Rattle.filterset_record.proofs.ColumnLemmas.{more_answered, passed_over, some_item}
use Rattle.filterset_record.specs.{Hits.IsNextHit, Hits.IsPlace, Hits.NoneHas, declared.hits.Hit.Hit}
use Rattle.filterset_record.specs.{declared.hits.Place.Place, declared.names.Names.Names, Joined.joined, Joined.offset}

bytes_of : Bor TestCaseName → List ℕ
bytes_of name = name.now

-- a name is joined behind those before it
pub joined_more : (names : List (Bor TestCaseName)) (name : Bor TestCaseName) → joined (names ++ name ∷ []) ≡ joined names ++ name.now
joined_more names name =
    flat_map-append (λ (n : Bor TestCaseName). n.now) names (name ∷ []) ∙ ap (λ xs. joined names ++ xs) (append-nil name.now)

-- a name begins where the one before it ends
pub offset_next : (names : List (Bor TestCaseName)) (k : ℕ) (name : Bor TestCaseName) → IsAt names k name → offset names (k + 1) ≡ offset names k + length name.now
offset_next names k name at =
    let more : take (k + 1) names ≡ take k names ++ name ∷ [] = take_more names k name at.0 ∙ ap (λ n. take k names ++ n ∷ []) at.1 in
    ap (λ ns. length (joined ns)) more ∙ ap length (joined_more (take k names) name) ∙ length-append (joined (take k names)) name.now

pub offset_whole : (names : List (Bor TestCaseName)) → offset names (length names) ≡ length (joined names)
offset_whole names = ap (λ ns. length (joined ns)) (take-length names)

-- names end within the text
pub offset_within : (names : List (Bor TestCaseName)) (k : ℕ) (name : Bor TestCaseName) → IsAt names k name → offset names k + length name.now ≤ length (joined names)
offset_within names k name at =
    let below = length-flat_map-take (λ (n : Bor TestCaseName). n.now) names k name at.0 in
    rw at.1 at below

pub offset_rises : (names : List (Bor TestCaseName)) (i j : ℕ) → i ≤ j → offset names i ≤ offset names j
offset_rises names i j below =
    let rest = take (j - i) (drop i names) in
    let same : i + (j - i) ≡ j = omega (arith, below) in
    let long : offset names j ≡ offset names i + length (joined rest) =
    ap (λ n. offset names n) (sym same) ∙ ap (λ ns. length (joined ns)) (take-add i (j - i) names) ∙ ap length (flat_map-append (λ (n : Bor TestCaseName). n.now) (take i names) rest) ∙ length-append (joined (take i names)) (joined rest) in
    omega (arith, long)

-- a byte of a name in the text of all names
name_byte : (names : List (Bor TestCaseName)) (k j : ℕ) (name : Bor TestCaseName) → IsAt names k name → j < length name.now → get_or (joined names) (offset names k + j) 0 ≡ get_or name.now j 0
name_byte names k j name at within =
    let inside : j < length (get_or names k name).now = rw at.1 within in
    get_or-flat_map (λ (n : Bor TestCaseName). n.now) names k j name 0 at.0 inside ∙ ap (λ (n : Bor TestCaseName). get_or n.now j 0) at.1

-- what a name contains occurs in the text from where an earlier name begins
pub occurs_after : (names : List (Bor TestCaseName)) (needle : List ℕ) (from k : ℕ) (name : Bor TestCaseName) → from ≤ k → IsAt names k name → HasSubslice name.now needle
    → (p : ℕ) × OccursAt (drop (offset names from) (joined names)) needle p × (offset names from + p + length needle ≤ offset names (k + 1))
occurs_after names needle from k name later at has =
    let text = joined names in
    let start = offset names from in
    let found = somewhere_stands name.now needle has in
    let o = found.0 in
    let rises = offset_rises names from k later in
    let next = offset_next names k name at in
    let inside = offset_within names k name at in
    let p = offset names k + o - start in (
      p,
      record {
        fits = omega (arith, length-drop start text, found.1, inside, rises);
        reads = λ j within.
            let moved : start + (p + j) ≡ offset names k + (o + j) = omega (arith, rises) in
            get_or-drop start text (p + j) 0 ∙ ap (λ q. get_or text q 0) moved ∙ name_byte names k (o + j) name at (omega (arith, found.1, within)) ∙ byte_of name.now needle o j found.2 within;
      },
      omega (arith, found.1, next, rises),
    )

-- what occurs in the text within a name is contained in the name
pub has_within : (names : List (Bor TestCaseName)) (needle : List ℕ) (start k p : ℕ) (name : Bor TestCaseName) → IsAt names k name → OccursAt (drop start (joined names)) needle p
    → offset names k ≤ start + p → start + p + length needle ≤ offset names (k + 1) → HasSubslice name.now needle
has_within names needle start k p name at occurs after before =
    let text = joined names in
    let n = length needle in
    let next = offset_next names k name at in
    let o = start + p - offset names k in
    let part = take n (drop o name.now) in
    let long : length part ≡ n = length-take-le n (drop o name.now) (omega (arith, length-drop o name.now, after, before, next)) in
    let stands : StandsAt name.now needle o = same_number_lists part needle long (λ i within.
    let small : i < n = omega (arith, within, long) in
    let moved : offset names k + (o + i) ≡ start + (p + i) = omega (arith, after) in
    get_or-take n (drop o name.now) i 0 small ∙ get_or-drop o name.now i 0 ∙ sym (name_byte names k (o + i) name at (omega (arith, small, after, before, next))) ∙ ap (λ q. get_or text q 0) moved ∙ sym (get_or-drop start text (p + i) 0) ∙ occurs.reads i small) in
    stands_somewhere name.now needle o stands

-- ---- the name with a byte

-- a byte of the text from where a name begins: there is such a name
pub name_here : (names : List (Bor TestCaseName)) (k at : ℕ) → k ≤ length names → offset names k ≤ at → at < length (joined names) → k < length names
name_here names k at below begins within = elim (cases_lt k (length names)) [
  | inl here ↦ here
  | inr past ↦
      let same : k ≡ length names = omega (arith, below, past) in
      absurd (omega (arith, ap (offset names) same, offset_whole names, begins, within))
]

-- ---- the next hit

-- the rest of the text from a place on
pub rest_of : (names : Names) (place : Place) (text : List ℕ) → text ≡ string_bytes names.text → IsPlace names place
    → take (length text - place.start) (drop place.start text) ≡ drop (offset (names_of names) place.position) (joined (names_of names))
rest_of names place text is at = take_rest text place.start ∙ ap (λ xs. drop place.start xs) (is ∙ names.laid) ∙ ap (λ n. drop n (joined (names_of names))) at.1

pub place_within : (names : Names) (place : Place) (text : List ℕ) → text ≡ string_bytes names.text → IsPlace names place → place.start ≤ length text
place_within names place text is at =
    omega (arith, at.1, ap length (is ∙ names.laid), offset_rises (names_of names) place.position (length (names_of names)) at.0, offset_whole (names_of names))

pub no_hit : (names : List (Bor TestCaseName)) (needle : List ℕ) (from : ℕ) (hay : List ℕ) → hay ≡ drop (offset names from) (joined names)
    → Nowhere (OccursAt hay needle) 0 (length hay + 1) → NoneHas needle names from (length names)
no_hit names needle from hay is none = λ k name later before at has.
    let found = occurs_after names needle from k name later at has in
    let occurs : OccursAt hay needle found.0 = subst (λ (h : List ℕ). OccursAt h needle found.0) (sym is) found.1 in
    none found.0 (omega arith) (omega (arith, occurs.fits)) occurs

pub is_hit : (names : List (Bor TestCaseName)) (needle : List ℕ) (from start : ℕ) (hay : List ℕ) (bound p j end size : ℕ) → hay ≡ drop (offset names from) (joined names)
    → start ≡ offset names from → 0 < length needle → size ≡ length needle
    → NoneBefore (OccursAt hay needle) 0 bound p × OccursAt hay needle p
    → from ≤ j → j < length names → offset names j ≤ start + p → start + p < end → end ≡ offset names (j + 1)
    → IsNextHit needle names from (record { position = j; end = end; is_within = leb (start + p + size) end })
is_hit names needle from start hay bound p j end size is begins some sized found later within after before ends = record {
  later = later;
  within = within;
  ends = ends;
  before = λ k name low high at has.
      let other = occurs_after names needle from k name low at has in
      let occurs : OccursAt hay needle other.0 = subst (λ (h : List ℕ). OccursAt h needle other.0) (sym is) other.1 in
      let rises = offset_rises names (k + 1) j (omega (arith, high)) in
      found.0.before other.0 (omega arith) (omega (arith, rises, other.2, after, begins, some)) occurs;
  has = λ name at. (
    λ yes.
        let inside = leb-true (start + p + size) end yes in
        let occurs : OccursAt (drop start (joined names)) needle p = subst (λ (h : List ℕ). OccursAt h needle p) (is ∙ ap (λ n. drop n (joined names)) (sym begins)) found.1 in
        has_within names needle start j p name at occurs after (omega (arith, inside, sized, ends)),
    λ has.
        let other = occurs_after names needle from j name later at has in
        let occurs : OccursAt hay needle other.0 = subst (λ (h : List ℕ). OccursAt h needle other.0) (sym is) other.1 in
        let first : p ≤ other.0 = ⊎_elim (λ early. absurd (found.0.before other.0 (omega arith) early occurs)) (λ late. late) (cases_lt other.0 p) in
        le-leb (start + p + size) end (omega (arith, first, other.2, sized, begins, ends)),
  );
}

-- ---- answers of hits

-- the names up to the next hit are answered, and its own
pub hit_answered : (needle old new : List ℕ) (names : List (Bor TestCaseName)) (from : ℕ) (hit : Hit)
    → AnsweredSoFar old names (λ position name. HasSubslice name.now needle) from → IsNextHit needle names from hit
    → ((i : ℕ) → bit_of new i ≡ ((i == hit.position) && hit.is_within || bit_of old i))
    → AnsweredSoFar new names (λ position name. HasSubslice name.now needle) (hit.position + 1)
hit_answered needle old new names from hit before is put =
    let item = some_item names hit.position is.within in
    let passed = passed_over old names (λ position name. HasSubslice name.now needle) from hit.position is.later before is.before in
    more_answered old new names (λ position name. HasSubslice name.now needle) hit.position item.0 hit.is_within passed item.1 (is.has item.0 item.1) put

-- where the next place is
pub hit_place : (needle : List ℕ) (names : Names) (from : ℕ) (hit : Hit) (place : Place) → IsNextHit needle (names_of names) from hit
    → place.position ≡ hit.position + 1 → place.start ≡ hit.end → IsPlace names place
hit_place needle names from hit place is position start =
    (omega (arith, position, is.within), start ∙ is.ends ∙ ap (offset (names_of names)) (sym position))

-- an empty text is contained in each
pub has_nothing : (name value : List ℕ) → length value ≡ 0 → HasSubslice name value
has_nothing name value none = rw (empty_of value none) ([], name, refl)
