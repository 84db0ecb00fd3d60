-- Names in the text of all names.
use Rattle.std.proofs.Common.{◌≡◌, ◌+◌, ◌-◌, ◌<◌, ◌≤◌, ℕ, List, [], ◌∷◌, ◌++◌, length, take, drop, get_or, ap, sym, subst, ◌∙◌, ⊎_elim, inl, inr, arith}
use Rattle.std.specs.{Borrow.Bor, Prelude.Contains, Str.Iter.HasSubslice}
use Rattle.std.proofs.Math.{Dec.leb, Seq.take-add, Seq.take-length}
use Rattle.std.proofs.lemmas.{Bool.cases_lt, Bool.le-leb, Bool.leb-true, Grind.flat_map-append, Grind.same_number_lists}
use Rattle.std.proofs.lemmas.List.{append-nil, get_or-drop, get_or-take, length-append, length-drop, length-take-le, take_more}
use Rattle.std.proofs.lemmas.List.{Concat.get_or-flat_map, Folds.length-flat_map-take}
use Rattle.std.proofs.lemmas.List.FromFn.{get_or-map-range_with_len, length-map-range_with_len, map-range_with_len_more}
use Rattle.filterset_graph.specs.declared.package.PackageMetadata.{PackageMetadata}
use Rattle.filterset_matchers.specs.Substring.{StandsAt}
use Rattle.filterset_matchers.proofs.Substrings.{byte_of, somewhere_stands, stands_somewhere}
use Rattle.memchr.specs.Find.{OccursAt, NoneBefore, Nowhere}
use Rattle.nextest_filtering.specs.Hits.{IsAt, IsNextHit, NoneHas}
use Rattle.nextest_filtering.specs.Joined.{ends_of, joined, name_of, offset}
use Rattle.nextest_filtering.specs.declared.compile.members.Hit.{Hit}

-- a name is joined behind those before it
pub joined_more : (packages : List (Bor PackageMetadata)) (p : Bor PackageMetadata) → joined (packages ++ p ∷ []) ≡ joined packages ++ name_of p
joined_more packages p =
    flat_map-append (λ (q : Bor PackageMetadata). name_of q) packages (p ∷ []) ∙ ap (λ xs. joined packages ++ xs) (append-nil (name_of p))

-- one package more
pub first_more : (packages : List (Bor PackageMetadata)) (k : ℕ) (p : Bor PackageMetadata) → IsAt packages k p → joined (take (k + 1) packages) ≡ joined (take k packages) ++ name_of p
first_more packages k p at =
    let more : take (k + 1) packages ≡ take k packages ++ p ∷ [] = take_more packages k p at.0 ∙ ap (λ n. take k packages ++ n ∷ []) at.1 in
    ap (λ ns. joined ns) more ∙ joined_more (take k packages) p

-- a name begins where the one before it ends
pub offset_next : (packages : List (Bor PackageMetadata)) (k : ℕ) (p : Bor PackageMetadata) → IsAt packages k p → offset packages (k + 1) ≡ offset packages k + length (name_of p)
offset_next packages k p at = ap length (first_more packages k p at) ∙ length-append (joined (take k packages)) (name_of p)

pub offset_whole : (packages : List (Bor PackageMetadata)) → offset packages (length packages) ≡ length (joined packages)
offset_whole packages = ap (λ ns. length (joined ns)) (take-length packages)

-- names end within the text
pub offset_within : (packages : List (Bor PackageMetadata)) (k : ℕ) (p : Bor PackageMetadata) → IsAt packages k p → offset packages k + length (name_of p) ≤ length (joined packages)
offset_within packages k p at =
    let below = length-flat_map-take (λ (q : Bor PackageMetadata). name_of q) packages k p at.0 in
    rw at.1 at below

pub offset_rises : (packages : List (Bor PackageMetadata)) (i j : ℕ) → i ≤ j → offset packages i ≤ offset packages j
offset_rises packages i j below =
    let rest = take (j - i) (drop i packages) in
    let same : i + (j - i) ≡ j = omega (arith, below) in
    let long : offset packages j ≡ offset packages i + length (joined rest) =
    ap (λ n. offset packages n) (sym same) ∙ ap (λ ns. length (joined ns)) (take-add i (j - i) packages) ∙ ap length (flat_map-append (λ (q : Bor PackageMetadata). name_of q) (take i packages) rest) ∙ length-append (joined (take i packages)) (joined rest) in
    omega (arith, long)

pub start_within : (packages : List (Bor PackageMetadata)) (k : ℕ) → k ≤ length packages → offset packages k ≤ length (joined packages)
start_within packages k below = omega (arith, offset_rises packages k (length packages) below, offset_whole packages)

-- where a name ends is kept
pub end_read : (packages : List (Bor PackageMetadata)) (ends : List ℕ) (k end : ℕ) → ends ≡ ends_of packages (length packages) → k < length packages → end ≡ get_or ends k end → end ≡ offset packages (k + 1)
end_read packages ends k end is within read =
    let here : 0 + k ≡ k = omega arith in
    read ∙ ap (λ xs. get_or xs k end) is ∙ get_or-map-range_with_len (λ n. offset packages (n + 1)) 0 (length packages) k k end within here

pub ends_more : (packages : List (Bor PackageMetadata)) (k : ℕ) → ends_of packages (k + 1) ≡ ends_of packages k ++ offset packages (k + 1) ∷ []
ends_more packages k =
    let here : 0 + k ≡ k = omega arith in
    map-range_with_len_more (λ n. offset packages (n + 1)) 0 k k here

pub ends_counted : (packages : List (Bor PackageMetadata)) (ends : List ℕ) → ends ≡ ends_of packages (length packages) → length ends ≡ length packages
ends_counted packages ends is = ap length is ∙ length-map-range_with_len (λ n. offset packages (n + 1)) 0 (length packages)

-- a byte of a name in the text of all names
name_byte : (packages : List (Bor PackageMetadata)) (k j : ℕ) (p : Bor PackageMetadata) → IsAt packages k p → j < length (name_of p) → get_or (joined packages) (offset packages k + j) 0 ≡ get_or (name_of p) j 0
name_byte packages k j p at within =
    let inside : j < length (name_of (get_or packages k p)) = rw at.1 within in
    get_or-flat_map (λ (q : Bor PackageMetadata). name_of q) packages k j p 0 at.0 inside ∙ ap (λ (q : Bor PackageMetadata). get_or (name_of q) j 0) at.1

-- what a name contains occurs in the text from where an earlier name begins
pub occurs_after : (packages : List (Bor PackageMetadata)) (needle : List ℕ) (from k : ℕ) (p : Bor PackageMetadata) → from ≤ k → IsAt packages k p → HasSubslice (name_of p) needle
    → (q : ℕ) × OccursAt (drop (offset packages from) (joined packages)) needle q × (offset packages from + q + length needle ≤ offset packages (k + 1))
occurs_after packages needle from k p later at has =
    let text = joined packages in
    let start = offset packages from in
    let found = somewhere_stands (name_of p) needle has in
    let o = found.0 in
    let rises = offset_rises packages from k later in
    let next = offset_next packages k p at in
    let inside = offset_within packages k p at in
    let q = offset packages k + o - start in (
      q,
      record {
        fits = omega (arith, length-drop start text, found.1, inside, rises);
        reads = λ j within.
            let moved : start + (q + j) ≡ offset packages k + (o + j) = omega (arith, rises) in
            get_or-drop start text (q + j) 0 ∙ ap (λ n. get_or text n 0) moved ∙ name_byte packages k (o + j) p at (omega (arith, found.1, within)) ∙ byte_of (name_of p) needle o j found.2 within;
      },
      omega (arith, found.1, next, rises),
    )

-- what occurs in the text within a name is contained in the name
pub has_within : (packages : List (Bor PackageMetadata)) (needle : List ℕ) (start k q : ℕ) (p : Bor PackageMetadata) → IsAt packages k p → OccursAt (drop start (joined packages)) needle q
    → offset packages k ≤ start + q → start + q + length needle ≤ offset packages (k + 1) → HasSubslice (name_of p) needle
has_within packages needle start k q p at occurs after before =
    let text = joined packages in
    let n = length needle in
    let next = offset_next packages k p at in
    let o = start + q - offset packages k in
    let part = take n (drop o (name_of p)) in
    let long : length part ≡ n = length-take-le n (drop o (name_of p)) (omega (arith, length-drop o (name_of p), after, before, next)) in
    let stands : StandsAt (name_of p) needle o = same_number_lists part needle long (λ i within.
    let small : i < n = omega (arith, within, long) in
    let moved : offset packages k + (o + i) ≡ start + (q + i) = omega (arith, after) in
    get_or-take n (drop o (name_of p)) i 0 small ∙ get_or-drop o (name_of p) i 0 ∙ sym (name_byte packages k (o + i) p at (omega (arith, small, after, before, next))) ∙ ap (λ m. get_or text m 0) moved ∙ sym (get_or-drop start text (q + i) 0) ∙ occurs.reads i small) in
    stands_somewhere (name_of p) needle o stands

-- ---- the name with a byte

-- a byte of the text from where a name begins: there is such a name
pub name_here : (packages : List (Bor PackageMetadata)) (k at : ℕ) → offset packages k ≤ at → at < length (joined packages) → k < length packages
name_here packages k at begins within = elim (cases_lt k (length packages)) [
  | inl here ↦ here
  | inr past ↦ absurd (omega (arith, offset_rises packages (length packages) k past, offset_whole packages, begins, within))
]

-- ---- the next hit

pub no_hit : (packages : List (Bor PackageMetadata)) (needle : List ℕ) (from : ℕ) (hay : List ℕ) → hay ≡ drop (offset packages from) (joined packages)
    → Nowhere (OccursAt hay needle) 0 (length hay + 1) → NoneHas needle packages from (length packages)
no_hit packages needle from hay is none = λ k p later before at has.
    let found = occurs_after packages needle from k p later at has in
    let occurs : OccursAt hay needle found.0 = subst (λ (h : List ℕ). OccursAt h needle found.0) (sym is) found.1 in
    none found.0 (omega arith) (omega (arith, occurs.fits)) occurs

pub is_hit : (packages : List (Bor PackageMetadata)) (needle : List ℕ) (from start : ℕ) (hay : List ℕ) (bound q j end size : ℕ) → hay ≡ drop (offset packages from) (joined packages)
    → start ≡ offset packages from → 0 < length needle → size ≡ length needle
    → NoneBefore (OccursAt hay needle) 0 bound q × OccursAt hay needle q
    → from ≤ j → j < length packages → offset packages j ≤ start + q → start + q < end → end ≡ offset packages (j + 1)
    → IsNextHit needle packages from (record { position = j; is_within = leb (start + q + size) end })
is_hit packages needle from start hay bound q j end size is begins some sized found later within after before ends = record {
  later = later;
  within = within;
  before = λ k p low high at has.
      let other = occurs_after packages needle from k p low at has in
      let occurs : OccursAt hay needle other.0 = subst (λ (h : List ℕ). OccursAt h needle other.0) (sym is) other.1 in
      let rises = offset_rises packages (k + 1) j (omega (arith, high)) in
      found.0.before other.0 (omega arith) (omega (arith, rises, other.2, after, begins, some)) occurs;
  has = λ p at. (
    λ yes.
        let inside = leb-true (start + q + size) end yes in
        let occurs : OccursAt (drop start (joined packages)) needle q = subst (λ (h : List ℕ). OccursAt h needle q) (is ∙ ap (λ n. drop n (joined packages)) (sym begins)) found.1 in
        has_within packages needle start j q p at occurs after (omega (arith, inside, sized, ends)),
    λ has.
        let other = occurs_after packages needle from j p later at has in
        let occurs : OccursAt hay needle other.0 = subst (λ (h : List ℕ). OccursAt h needle other.0) (sym is) other.1 in
        let first : q ≤ other.0 = ⊎_elim (λ early. absurd (found.0.before other.0 (omega arith) early occurs)) (λ late. late) (cases_lt other.0 q) in
        le-leb (start + q + size) end (omega (arith, first, other.2, sized, begins, ends)),
  );
}

-- ---- the packages that hits find

-- packages of which all before a position were found whose names contain the needle
abbrev pub AllBefore : List ℕ → List (Bor PackageMetadata) → ℕ → List (Bor PackageMetadata) → Type 0
AllBefore needle packages to found =
    (k : ℕ) (p : Bor PackageMetadata) → k < to → IsAt packages k p → HasSubslice (name_of p) needle → Contains found p

-- the same past the next hit, if what was found was kept, and the package of the hit is found if its name contains the needle
pub all_past : (needle : List ℕ) (packages found more : List (Bor PackageMetadata)) (from : ℕ) (hit : Hit) → IsNextHit needle packages from hit
    → AllBefore needle packages from found → ((p : Bor PackageMetadata) → Contains found p → Contains more p)
    → ((p : Bor PackageMetadata) → IsAt packages hit.position p → HasSubslice (name_of p) needle → Contains more p)
    → AllBefore needle packages (hit.position + 1) more
all_past needle packages found more from hit next before kept here = λ k p below at has. ⊎_elim
    (λ early. kept p (before k p early at has))
    (λ late. ⊎_elim
    (λ skipped. absurd (next.before k p late skipped at has))
    (λ over. let same : k ≡ hit.position = omega (arith, over, below) in here p (subst (λ n. IsAt packages n p) same at) has)
    (cases_lt k hit.position)) (cases_lt k from)
