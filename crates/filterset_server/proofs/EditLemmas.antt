-- Edits of texts.
use Rattle.std.proofs.Common.{◌≡◌, ℕ, suc, Bool, true, false, refl, arith, ◌+◌, ◌-◌, ◌<◌, ◌≤◌, ◌∙◌, All, Contains, List, [], ◌∷◌, ◌++◌, append_assoc, ap, drop, get_or, length, map, subst, sym, take}
use Rattle.std.specs.Prelude.{IsSomeAnd, None, Option, Some, if◌then◌else◌}
use Rattle.std.proofs.lemmas.List.{append-nil, drop-drop, get_or-drop, get_or-map, get_or_default, length-drop, length-map, length-take-le}
use Rattle.std.proofs.lemmas.List.Elements.{All-append, All-cons, All-head, All-nil, All-tail, All-weaker}
use Rattle.std.proofs.lemmas.Str.{IsCharBoundary-from_rest}
use Rattle.std.specs.{List.Sorted.IsNonDecreasingBy, Option.option_map_or, Str.IsCharBoundary, Str.bytes_eq, Borrow.Bor}
use Rattle.filterset_entries.specs.Checked.{TextRow, text_row}
use Rattle.filterset_entries.specs.{declared.text.TextEntry.TextEntry, Placements.Placement}
use Rattle.filterset_display.specs.Positions.{Text}
use Rattle.filterset_configuration.specs.{Numbers.AreApart, declared.stretch.Stretch.Stretch}
use Rattle.filterset_server.specs.Edits.{EditRow, IsBetween, IsWithin, ReplacesOne, edited_from, rewrites, row_edits, written_at}
use Rattle.filterset_documents.specs.Filtersets.{stretch_at}
use Rattle.filterset_server.proofs.BecomingLemmas.{now_of}
use Rattle.filterset_documents.proofs.JoinLemmas.{rows_more}

-- ---- edits of a text from an offset on

-- they follow each other from there on, and each is between characters of the text
abbrev pub AreLeft : Text → ℕ → List EditRow → Type 0
AreLeft text at edits = AreApart at (map (λ e. e.at) edits) × All (IsBetween text) edits

-- a place of the text is one of its rest
boundary_back : (bs : Text) (i j : ℕ) → IsCharBoundary bs (i + j) → IsCharBoundary (drop i bs) j
boundary_back bs i j is =
    let at : get_or (drop i bs) j 0 ≡ get_or bs (i + j) 0 = get_or-drop i bs j 0 in (
      omega (arith, is.0, length-drop i bs),
      λ lt high. omega (arith, at, is.1 (omega (arith, lt, length-drop i bs)) (omega (arith, at, high))),
    )

-- a stretch within the rest is one of the text
pub in_text : (text : Text) (at : ℕ) (s : Stretch) → at ≤ length text → IsWithin at (drop at text) s
    → (at ≤ s.from) × (s.from ≤ s.to) × IsCharBoundary text s.from × IsCharBoundary text s.to
in_text text at s within (from, to, front, back) =
    let P : ℕ → Type 0 = λ n. IsCharBoundary text n in
    let first : at + (s.from - at) ≡ s.from = omega (arith, from) in
    let last : at + (s.to - at) ≡ s.to = omega (arith, from, to) in (
      from,
      to,
      subst P first (IsCharBoundary-from_rest text at (s.from - at) within front),
      subst P last (IsCharBoundary-from_rest text at (s.to - at) within back),
    )

-- and the other way round
pub in_rest : (text : Text) (at : ℕ) (s : Stretch) → at ≤ s.from → s.from ≤ s.to → IsCharBoundary text s.from → IsCharBoundary text s.to
    → IsWithin at (drop at text) s
in_rest text at s from to front back =
    let P : ℕ → Type 0 = λ n. IsCharBoundary text n in
    let first : s.from ≡ at + (s.from - at) = omega (arith, from) in
    let last : s.to ≡ at + (s.to - at) = omega (arith, from, to) in (
      from,
      to,
      boundary_back text at (s.from - at) (subst P first front),
      boundary_back text at (s.to - at) (subst P last back),
    )

-- one edit more that follows, or one less
pub left_more : (text : Text) (at : ℕ) (e : EditRow) (es : List EditRow) → at ≤ e.at.from → e.at.from ≤ e.at.to
    → IsCharBoundary text e.at.from → IsCharBoundary text e.at.to → AreLeft text e.at.to es → AreLeft text at (e ∷ es)
left_more text at e es from to front back (apart, all) =
    ((from, to, apart), All-cons (IsBetween text) e es (front, back) all)

pub left_next : (text : Text) (at : ℕ) (e : EditRow) (es : List EditRow) → AreLeft text at (e ∷ es) → AreLeft text e.at.to es
left_next text at e es (apart, all) = (apart.2, All-tail (IsBetween text) e es all)

pub left_within : (text : Text) (at : ℕ) (e : EditRow) (es : List EditRow) → at ≤ length text → AreLeft text at (e ∷ es)
    → IsWithin at (drop at text) e.at
left_within text at e es within (apart, all) =
    let (front, back) = All-head (IsBetween text) e es all in
    in_rest text at e.at apart.0 apart.1 front back

-- what is written with one edit more
pub made_more : (out gapped new gap rest behind whole : Text) (at : ℕ) (e : EditRow) (es : List EditRow) → at ≤ e.at.from → e.at.from ≤ e.at.to
    → out ++ edited_from at rest (e ∷ es) ≡ whole → gap ≡ take (e.at.from - at) rest → behind ≡ drop (e.at.to - at) rest
    → gapped ≡ out ++ gap → new ≡ gapped ++ e.text → new ++ edited_from e.at.to behind es ≡ whole
made_more out gapped new gap rest behind whole at e es from to is gap_is behind_is first second =
    let far : e.at.from - at + (e.at.to - e.at.from) ≡ e.at.to - at = omega (arith, from, to) in
    let cut : drop (e.at.to - e.at.from) (drop (e.at.from - at) rest) ≡ behind =
    drop-drop (e.at.to - e.at.from) (e.at.from - at) rest ∙ ap (λ n. drop n rest) far ∙ sym behind_is in
    let left : Text = edited_from e.at.to behind es in
    ap (λ o. o ++ left) (second ∙ ap (λ o. o ++ e.text) first)
    ∙ append_assoc (out ++ gap) e.text left
    ∙ append_assoc out gap (e.text ++ left)
    ∙ ap (λ g. out ++ (g ++ (e.text ++ left))) gap_is
    ∙ ap (λ b. out ++ (take (e.at.from - at) rest ++ (e.text ++ edited_from e.at.to b es))) (sym cut)
    ∙ is

-- ---- edits of filtersets

-- the edits of one filterset more
pub rewrites-push : (rows : List TextRow) (texts : List Text) (row : TextRow) (new : Text) → length rows ≡ length texts
    → rewrites (rows ++ row ∷ []) (texts ++ new ∷ []) ≡ rewrites rows texts ++ row_edits row new
rewrites-push [] [] row new same = append-nil (row_edits row new)
rewrites-push [] (t ∷ texts) row new same = absurd (omega (arith, same))
rewrites-push (r ∷ rows) [] row new same = absurd (omega (arith, same))
rewrites-push (r ∷ rows) (t ∷ texts) row new same =
    ap (λ es. row_edits r t ++ es) (rewrites-push rows texts row new (omega (arith, same)))
    ∙ sym (append_assoc (row_edits r t) (rewrites rows texts) (row_edits row new))

-- the edits of the next filterset of a list, whose text is the next one
pub rewrites_next : (entries : List TextEntry) (texts : List (Bor Text)) (i : ℕ) (entry : TextEntry) (d : Bor Text) (old new : List EditRow)
    → i < length entries → i < length texts → get_or entries i entry ≡ entry
    → old ≡ rewrites (map text_row (take i entries)) (map now_of (take i texts)) → new ≡ old ++ row_edits (text_row entry) (get_or texts i d).now
    → new ≡ rewrites (map text_row (take (i + 1) entries)) (map now_of (take (i + 1) texts))
rewrites_next entries texts i entry d old new lt within at are added =
    let text : Bor Text = get_or texts i d in
    let rows = map text_row (take i entries) in
    let news = map now_of (take i texts) in
    let more = row_edits (text_row entry) text.now in
    let same : length rows ≡ length news =
    omega (arith, length-map (take i entries) text_row, length-map (take i texts) now_of, length-take-le i entries (omega (arith, lt)), length-take-le i texts (omega (arith, within))) in
    rw (rows_more text_row entries i entry lt at, rows_more now_of texts i text within (get_or_default texts i text d within))
    (added ∙ ap (λ es. es ++ more) are ∙ sym (rewrites-push rows news (text_row entry) text.now same))

-- the edit of a filterset replaces it
one_edit : (b : Bool) (at : Placement) (made : Text)
    → All (λ (edit : EditRow). edit.at ≡ stretch_at at.spot) (if b then [] else record { at = stretch_at at.spot; text = made } ∷ [])
one_edit true at made = All-nil (λ (edit : EditRow). edit.at ≡ stretch_at at.spot)
one_edit false at made =
    let P : EditRow → Type 0 = λ edit. edit.at ≡ stretch_at at.spot in
    All-cons P _ [] refl (All-nil P)

replaces_place : (place : Option Placement) (text new : Text)
    → All (λ (edit : EditRow). IsSomeAnd place (λ at. edit.at ≡ stretch_at at.spot)) (option_map_or (λ (at : Placement). if bytes_eq text new then [] else record { at = stretch_at at.spot; text = written_at at.spot new } ∷ []) place [])
replaces_place None text new = All-nil (λ (edit : EditRow). ⊥)
replaces_place (Some at) text new = one_edit (bytes_eq text new) at (written_at at.spot new)

-- the edits of filtersets, of which each is one of these, replace these
replaces_all : (all rows : List TextRow) (texts : List Text) → ((row : TextRow) → Contains rows row → Contains all row)
    → All (ReplacesOne all) (rewrites rows texts)
replaces_all all [] texts among = All-nil (ReplacesOne all)
replaces_all all (row ∷ rows) [] among = All-nil (ReplacesOne all)
replaces_all all (row ∷ rows) (new ∷ texts) among =
    let Is = ReplacesOne all in
    let here : Contains all row = among row (0, omega arith, refl) in
    let front = row_edits row new in
    let one = All-weaker (λ edit. IsSomeAnd row.place (λ at. edit.at ≡ stretch_at at.spot)) Is (λ edit at. (row, here, at)) front (replaces_place row.place row.text new) in
    let others = replaces_all all rows texts (λ r (k, lt, at). among r (suc k, omega (arith, lt), at)) in
    All-append Is front (rewrites rows texts) one others

pub rewrites-replace : (rows : List TextRow) (texts : List Text) → All (ReplacesOne rows) (rewrites rows texts)
rewrites-replace rows texts = replaces_all rows rows texts (λ row is. is)

-- ---- order

-- elements are in the order of what they are seen as
pub seen_in_order : {A B : Type 0} (f : A → B) (n : B → ℕ) (xs : List A) → IsNonDecreasingBy (λ x. n (f x)) xs → IsNonDecreasingBy n (map f xs)
seen_in_order f n [] sorted = λ i j d le lt. absurd (omega (arith, lt))
seen_in_order f n (x ∷ xs) sorted = λ i j d le lt.
    let within : j < length (x ∷ xs) = omega (arith, lt, length-map (x ∷ xs) f) in
    let inside : i < length (x ∷ xs) = omega (arith, le, within) in
    rw (get_or-map f (x ∷ xs) i x d inside, get_or-map f (x ∷ xs) j x d within) (sorted i j x le within)
