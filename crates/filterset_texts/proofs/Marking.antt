-- Marks of places, one after the other.
use Rattle.std.proofs.Common.{rules}
use Rattle.std.proofs.Common.{◌≡◌, ◌↔◌, ℕ, zero, suc, ◌+◌, ◌<◌, Bool, false, refl, sym, ◌∙◌, ap, subst, List, [], ◌∷◌, ◌++◌, inl, inr, ⊎_elim, append_assoc, length, take, get_or, Option, Some, None, IsTrue, arith, below_more}
use Rattle.std.specs.{Borrow.Bor, Prelude.◌⊎◌, Prelude.◌||◌, Prelude.◌&&◌}
use Rattle.std.proofs.lemmas.Bool.{false≢true, and_parts, and_from, or_cases, or_left, or_right}
use Rattle.std.proofs.lemmas.List.{append-nil, same_from_push, take_more, length_push, get_or_push, get_or_append_left, get_or-map, length-map}
use Rattle.std.specs.declared.{vec.Vec.Vec, alloc.Global.Global}
use Rattle.filterset_glob.specs.Matching.{InClass}
use Rattle.filterset_texts.specs.Parts.{Fits}
use Rattle.filterset_texts.specs.Places.{parts_before, LeadsTo, IsAdmittedAt, Admits, BeginsAnew, place_of, row_of}
use Rattle.filterset_texts.specs.declared.part.Part.{Part}
use Rattle.filterset_texts.proofs.Fitting.{one_last, last_one, any_last, last_any}
use Rattle.filterset_texts.specs.declared.part.Part.TheVariants as part

abbrev pub parts_behind : List Part → Option Part → List Part
parts_behind parts None = []
parts_behind parts (Some part) = parts ++ part ∷ []

before_more : (before : List Part) (row : List (Option Part)) (place : Option Part)
    → parts_before before (row ++ place ∷ []) ≡ parts_behind (parts_before before row) place
before_more before [] None = refl
before_more before [] (Some part) = refl
before_more before (None ∷ row) place = before_more [] row place
before_more before (Some part ∷ row) place = before_more (before ++ part ∷ []) row place

-- the parts before the place at i
abbrev pub parts_at : List (Option Part) → ℕ → List Part
parts_at row i = parts_before [] (take i row)

pub parts_more : (row : List (Option Part)) (i : ℕ) (place : Option Part) → i < length row → get_or row i None ≡ place
    → parts_at row (i + 1) ≡ parts_behind (parts_at row i) place
parts_more row i place short is =
    ap (parts_before []) (take_more row i None short) ∙ before_more [] (take i row) (get_or row i None) ∙ ap (parts_behind (parts_at row i)) is

pub row_at : (places : List (Option (Bor Part))) (i : ℕ) (place : Option (Bor Part)) → i < length places → place ≡ get_or places i place
    → get_or (row_of places) i None ≡ place_of place
row_at places i place short is = get_or-map place_of places i place None short ∙ ap place_of (sym is)

-- the marks of the first i places, where `reached` is the last
pub record IsMarkedTo (row : List (Option Part)) (text : List ℕ) (i : ℕ) (reached : Bool) (marks : List Bool) : Type 0 where
  pub each : (k : ℕ) → k < i → IsTrue (get_or marks k false) ↔ Fits (parts_at row (k + 1)) text
  pub last : IsTrue reached ↔ Fits (parts_at row i) text

pub marked_more : (row : List (Option Part)) (text : List ℕ) (i : ℕ) (reached next : Bool) (marks : List Bool) → length marks ≡ i
    → IsMarkedTo row text i reached marks → IsTrue next ↔ Fits (parts_at row (i + 1)) text
    → IsMarkedTo row text (i + 1) next (marks ++ next ∷ [])
marked_more row text i reached next marks count m here = search (rules, arith, below_more, get_or_append_left, get_or_push)

-- the same, for places that are given by references
pub marked_next : (places : List (Option (Bor Part))) (text : List ℕ) (i : ℕ) (place : Option (Bor Part)) (known : Option Part) (reached next told : Bool) (marks more : List Bool)
    → i < length places → place ≡ get_or places i place → place_of place ≡ known → next ≡ told → length marks ≡ i → more ≡ marks ++ next ∷ []
    → IsMarkedTo (row_of places) text i reached marks → IsTrue told ↔ Fits (parts_behind (parts_at (row_of places) i) known) text
    → IsMarkedTo (row_of places) text (i + 1) next more
marked_next places text i place known reached next told marks more short is same_place same_next count pushed m here =
    let row : List (Option Part) = row_of places in
    let within : i < length row = subst (λ n. i < n) (sym (length-map places place_of)) short in
    let fits : IsTrue next ↔ Fits (parts_at row (i + 1)) text =
    subst (λ (b : Bool). IsTrue b ↔ Fits (parts_at row (i + 1)) text) (sym same_next)
    (subst (λ (p : List Part). IsTrue told ↔ Fits p text) (sym (parts_more row i known within (row_at places i place short is ∙ same_place))) here) in
    subst (IsMarkedTo row text (i + 1) next) (sym pushed) (marked_more row text i reached next marks count m fits)

-- the start

no_end : (front : List ℕ) (c : ℕ) → [] ≡ front ++ c ∷ [] → ⊥
no_end [] c is = cc
no_end (d ∷ front) c is = cc

no_front : (front piece : List ℕ) → [] ≡ front ++ piece → front ≡ []
no_front [] piece is = refl
no_front (d ∷ front) piece is = absurd (cc)

pub start_one : (parts : List Part) (negated : Bool) (ranges : Vec (ℕ × ℕ) Global) → IsTrue false ↔ Fits (parts ++ part.One negated ranges ∷ []) []
start_one parts negated ranges =
    (λ h. absurd (false≢true h), λ fits. let (front, c, is, own, admits) = one_last parts negated ranges [] fits in absurd (no_end front c is))

pub start_any : (parts : List Part) (reached : Bool) → IsTrue reached ↔ Fits parts [] → IsTrue reached ↔ Fits (parts ++ part.Any ∷ []) []
start_any parts reached was = (
  λ h. last_any parts [] [] (was.0 h),
  λ fits. let (front, piece, is, own) = any_last parts [] fits in was.1 (subst (Fits parts) (no_front front piece is) own),
)

-- one more character

pub begun : (text : List ℕ) (c : ℕ) → IsTrue false ↔ Fits [] (text ++ c ∷ [])
begun text c = (λ h. absurd (false≢true h), λ is. absurd (no_end text c (sym is)))

pub follow_one : (parts : List Part) (negated : Bool) (ranges : Vec (ℕ × ℕ) Global) (text : List ℕ) (c : ℕ) (was admitted : Bool)
    → IsTrue was ↔ Fits parts text → IsTrue admitted ↔ InClass negated ranges.items c
    → IsTrue (was && admitted) ↔ Fits (parts ++ part.One negated ranges ∷ []) (text ++ c ∷ [])
follow_one parts negated ranges text c was admitted fits admits = search (rules, arith, and_parts, last_one, one_last, same_from_push, and_from)

-- a text that ends in c, cut in two: all is in front, or the second piece ends in c
cut_last : (text front piece : List ℕ) (c : ℕ) → text ++ c ∷ [] ≡ front ++ piece
    → (front ≡ text ++ c ∷ []) ⊎ ((less : List ℕ) × (text ≡ front ++ less))
cut_last text [] piece c is = inr (text, refl)
cut_last [] (d ∷ []) piece c is = inl (let same : c ≡ d = cc in ap (λ x. x ∷ []) (sym same))
cut_last [] (d ∷ e ∷ front) piece c is = absurd (cc)
cut_last (b ∷ text) (d ∷ front) piece c is =
    let head : b ≡ d = cc in
    ⊎_elim (λ whole. inl (ap (λ r. d ∷ r) whole ∙ ap (λ x. x ∷ (text ++ c ∷ [])) (sym head)))
    (λ (less, same). inr (less, ap (λ r. b ∷ r) same ∙ ap (λ x. x ∷ (front ++ less)) head)) (cut_last text front piece c cc)

pub follow_any : (parts : List Part) (text : List ℕ) (c : ℕ) (reached was : Bool)
    → IsTrue reached ↔ Fits parts (text ++ c ∷ []) → IsTrue was ↔ Fits (parts ++ part.Any ∷ []) text
    → IsTrue (reached || was) ↔ Fits (parts ++ part.Any ∷ []) (text ++ c ∷ [])
follow_any parts text c reached was whole fits = (
  λ h. ⊎_elim
      (λ here. subst (Fits (parts ++ part.Any ∷ [])) (append-nil (text ++ c ∷ [])) (last_any parts (text ++ c ∷ []) [] (whole.0 here)))
      (λ there. let (front, piece, is, own) = any_last parts text (fits.0 there) in
      subst (Fits (parts ++ part.Any ∷ [])) (sym (append_assoc front piece (c ∷ [])) ∙ ap (λ t. t ++ c ∷ []) (sym is)) (last_any parts front (piece ++ c ∷ []) own))
      (or_cases reached was h),
  λ all. let (front, piece, is, own) = any_last parts (text ++ c ∷ []) all in
      ⊎_elim (λ same. or_left reached was (whole.1 (subst (Fits parts) same own)))
      (λ (less, same). or_right reached was (fits.1 (subst (Fits (parts ++ part.Any ∷ [])) (sym same) (last_any parts front less own))))
      (cut_last text front piece c is),
)

-- the marks of the first i places after one more character, where `reached` is the last, and `was` the mark before it
pub record FollowsTo (row : List (Option Part)) (marks admitted : List Bool) (i : ℕ) (was reached : Bool) (next : List Bool) : Type 0 where
  pub counted : length next ≡ i
  pub marked : (text : List ℕ) (c : ℕ) → LeadsTo row text marks → IsAdmittedAt row c admitted → IsMarkedTo row (text ++ c ∷ []) i reached next
  pub before : (text : List ℕ) → LeadsTo row text marks → 0 < i → IsTrue was ↔ Fits (parts_at row i) text

pub followed : (places : List (Option (Bor Part))) (marks admitted : List Bool) (i : ℕ) (place : Option (Bor Part)) (known : Option Part) (was reached next told : Bool) (old more : List Bool)
    → i < length places → place ≡ get_or places i place → place_of place ≡ known → next ≡ told → more ≡ old ++ next ∷ []
    → FollowsTo (row_of places) marks admitted i was reached old
    → ((text : List ℕ) (c : ℕ) → LeadsTo (row_of places) text marks → IsAdmittedAt (row_of places) c admitted
    → IsTrue told ↔ Fits (parts_behind (parts_at (row_of places) i) known) (text ++ c ∷ []))
    → FollowsTo (row_of places) marks admitted (i + 1) (get_or marks i false) next more
followed places marks admitted i place known was reached next told old more short is same_place same_next pushed f here = record {
  counted = ap length pushed ∙ length_push old next ∙ ap (λ n. n + 1) f.counted;
  marked = λ text c leads admits. marked_next places (text ++ c ∷ []) i place known reached next told old more short is same_place same_next f.counted pushed (f.marked text c leads admits) (here text c leads admits);
  before = λ text leads later. leads.each i (subst (λ n. i < n) (sym (length-map places place_of)) short);
}

begins_later : (row : List (Option Part)) (i : ℕ) (part : Part) → BeginsAnew row → i < length row → get_or row i None ≡ Some part → 0 < i
begins_later [] i part begins short is = absurd (omega (arith, short))
begins_later (None ∷ row) zero part begins short is = absurd (cc)
begins_later (Some first ∷ row) zero part begins short is = absurd begins
begins_later (place ∷ row) (suc i) part begins short is = omega arith

pub told_first : (places : List (Option (Bor Part))) (i : ℕ) (text : List ℕ) (c : ℕ) → IsTrue false ↔ Fits (parts_behind (parts_at (row_of places) i) None) (text ++ c ∷ [])
told_first places i text c = begun text c

pub told_one : (places : List (Option (Bor Part))) (marks admitted : List Bool) (i : ℕ) (place : Option (Bor Part)) (negated : Bool) (ranges : Vec (ℕ × ℕ) Global) (was reached : Bool) (old : List Bool)
    → BeginsAnew (row_of places) → i < length places → place ≡ get_or places i place → place_of place ≡ Some (part.One negated ranges)
    → FollowsTo (row_of places) marks admitted i was reached old
    → (text : List ℕ) (c : ℕ) → LeadsTo (row_of places) text marks → IsAdmittedAt (row_of places) c admitted
    → IsTrue (was && get_or admitted i false) ↔ Fits (parts_behind (parts_at (row_of places) i) (Some (part.One negated ranges))) (text ++ c ∷ [])
told_one places marks admitted i place negated ranges was reached old begins short is known f text c leads admits =
    let row : List (Option Part) = row_of places in
    let within : i < length row = subst (λ n. i < n) (sym (length-map places place_of)) short in
    let at : get_or row i None ≡ Some (part.One negated ranges) = row_at places i place short is ∙ known in
    follow_one (parts_at row i) negated ranges text c was (get_or admitted i false)
    (f.before text leads (begins_later row i (part.One negated ranges) begins within at))
    (subst (λ (p : Option Part). IsTrue (get_or admitted i false) ↔ Admits p c) at (admits.each i within))

pub told_any : (places : List (Option (Bor Part))) (marks admitted : List Bool) (i : ℕ) (place : Option (Bor Part)) (was reached : Bool) (old : List Bool)
    → i < length places → place ≡ get_or places i place → place_of place ≡ Some part.Any
    → FollowsTo (row_of places) marks admitted i was reached old
    → (text : List ℕ) (c : ℕ) → LeadsTo (row_of places) text marks → IsAdmittedAt (row_of places) c admitted
    → IsTrue (reached || get_or marks i false) ↔ Fits (parts_behind (parts_at (row_of places) i) (Some part.Any)) (text ++ c ∷ [])
told_any places marks admitted i place was reached old short is known f text c leads admits =
    let row : List (Option Part) = row_of places in
    let within : i < length row = subst (λ n. i < n) (sym (length-map places place_of)) short in
    let parts : parts_at row (i + 1) ≡ parts_at row i ++ part.Any ∷ [] = parts_more row i (Some part.Any) within (row_at places i place short is ∙ known) in
    follow_any (parts_at row i) text c reached (get_or marks i false) (f.marked text c leads admits).last
    (subst (λ (p : List Part). IsTrue (get_or marks i false) ↔ Fits p text) parts (leads.each i within))
