-- Lines of tests in a row.
use Rattle.std.proofs.Common.{◌≡◌, ◌+◌, ◌-◌, ◌<◌, ◌≤◌, ℕ, zero, suc, Bool, List, [], ◌∷◌, ◌++◌, IsUtf8, IsCharBoundary, codes, drop, get_or, length, map, sym, ap, subst, ◌∙◌, take, arith, append_assoc, Some, Ok, Err, OnOk, Result, cond, is_ok}
use Rattle.std.specs.Prelude.{slice_range}
use Rattle.std.proofs.Math.Seq.{drop-append_seam, take-add, take-append_seam}
use Rattle.std.proofs.lemmas.Grind.{flat_map-append}
use Rattle.std.proofs.lemmas.List.{append-nil, get_or-drop, length-append, length-drop, take-append-drop, take_more, get_or-append-add}
use Rattle.std.proofs.lemmas.Str.{IsCharBoundary-after_ascii, IsCharBoundary-start}
use Rattle.filterset_record.specs.Columns.{IsAt}
use Rattle.filterset_record.proofs.ColumnLemmas.{some_item}
use Rattle.filterset_json.proofs.PieceLemmas.{Pieces-more}
use Rattle.filterset_json.specs.{Pieces.Pieces, Shape.Text}
use Rattle.filterset_cli.specs.Lines.{answer_text, lines_of, test_line}
use Rattle.filterset_record.specs.{Record.TestRow, Rows.test_row, declared.record.binaries.TestEntry.TestEntry}

-- one line more
pub lines_more : (id : Text) (answer : Bool) (tests : List TestEntry) (test : TestEntry)
    → lines_of id answer (tests ++ test ∷ []) ≡ lines_of id answer tests ++ test_line id answer test
lines_more id answer tests test =
    flat_map-append (test_line id answer) tests (test ∷ []) ∙ ap (λ xs. lines_of id answer tests ++ xs) (append-nil (test_line id answer test))

-- the line of the next test
pub lines_next : (id : Text) (answer : Bool) (tests : List TestEntry) (k : ℕ) (test : TestEntry) → IsAt tests k test
    → lines_of id answer (take (k + 1) tests) ≡ lines_of id answer (take k tests) ++ test_line id answer test
lines_next id answer tests k test at =
    let more : take (k + 1) tests ≡ take k tests ++ test ∷ [] = take_more tests k test at.0 ∙ ap (λ t. take k tests ++ t ∷ []) at.1 in
    ap (lines_of id answer) more ∙ lines_more id answer (take k tests) test

-- lines up to a position, and those from it on
pub lines_parted : (id : Text) (answer : Bool) (tests : List TestEntry) (k : ℕ)
    → lines_of id answer tests ≡ lines_of id answer (take k tests) ++ lines_of id answer (drop k tests)
lines_parted id answer tests k =
    ap (lines_of id answer) (sym (take-append-drop k tests)) ∙ flat_map-append (test_line id answer) (take k tests) (drop k tests)

-- a stretch of lines
pub lines_between : (id : Text) (answer : Bool) (tests : List TestEntry) (text : Text) (from to start end : ℕ) → from ≤ to
    → text ≡ lines_of id answer tests → start ≡ length (lines_of id answer (take from tests)) → end ≡ length (lines_of id answer (take to tests))
    → slice_range text start end ≡ lines_of id answer (take (to - from) (drop from tests))
lines_between id answer tests text from to start end ordered written begins ends =
    let same : from + (to - from) ≡ to = omega (arith, ordered) in
    let mid = lines_of id answer (take (to - from) (drop from tests)) in
    let front = lines_of id answer (take from tests) in
    let back = lines_of id answer (drop to tests) in
    let parted : lines_of id answer (take to tests) ≡ front ++ mid =
    ap (λ n. lines_of id answer (take n tests)) (sym same) ∙ ap (lines_of id answer) (take-add from (to - from) tests) ∙ flat_map-append (test_line id answer) (take from tests) (take (to - from) (drop from tests)) in
    let whole : text ≡ front ++ (mid ++ back) = written ∙ lines_parted id answer tests to ∙ ap (λ xs. xs ++ back) parted ∙ append_assoc front mid back in
    let long : end - start ≡ length mid = omega (arith, begins, ends, ap length parted, length-append front mid) in
    let dropped : drop start text ≡ mid ++ back = ap (λ n. drop n text) begins ∙ ap (drop (length front)) whole ∙ drop-append_seam front (mid ++ back) in
    ap (λ n. take n (drop start text)) long ∙ ap (take (length mid)) dropped ∙ take-append_seam mid back

-- lines up to a later position are no fewer
pub lines_rise : (id : Text) (answer : Bool) (tests : List TestEntry) (from to : ℕ) → from ≤ to
    → length (lines_of id answer (take from tests)) ≤ length (lines_of id answer (take to tests))
lines_rise id answer tests from to ordered =
    let same : from + (to - from) ≡ to = omega (arith, ordered) in
    let front = lines_of id answer (take from tests) in
    let mid = lines_of id answer (take (to - from) (drop from tests)) in
    let parted : lines_of id answer (take to tests) ≡ front ++ mid =
    ap (λ n. lines_of id answer (take n tests)) (sym same) ∙ ap (lines_of id answer) (take-add from (to - from) tests) ∙ flat_map-append (test_line id answer) (take from tests) (take (to - from) (drop from tests)) in
    omega (arith, ap length parted, length-append front mid)

-- a line ends in an ASCII byte
line_ends : (id : Text) (answer : Bool) (test : TestEntry) → (front : Text) × (test_line id answer test ≡ front ++ 10 ∷ [])
line_ends id answer test =
    (codes "  test " ++ (id ++ (codes " " ++ (test.name ++ (codes ": " ++ answer_text (Some answer))))), simp append_assoc)

-- a text of lines may be cut where a line begins
pub lines_cut : (id : Text) (answer : Bool) (tests : List TestEntry) (text : Text) (k at : ℕ) → IsUtf8 text → k ≤ length tests
    → text ≡ lines_of id answer tests → at ≡ length (lines_of id answer (take k tests)) → IsCharBoundary text at
lines_cut id answer tests text zero at utf8 within written begins =
    subst (λ (n : ℕ). IsCharBoundary text n) (sym begins) (IsCharBoundary-start text utf8)
lines_cut id answer tests text (suc k) at utf8 within written begins =
    let item = some_item tests k (omega (arith, within)) in
    let ended = line_ends id answer item.0 in
    let before = lines_of id answer (take k tests) in
    let back = lines_of id answer (drop (k + 1) tests) in
    let i = length before + length ended.0 in
    let next : lines_of id answer (take (k + 1) tests) ≡ (before ++ ended.0) ++ 10 ∷ [] =
    lines_next id answer tests k item.0 item.1 ∙ ap (λ xs. before ++ xs) ended.1 ∙ sym (append_assoc before ended.0 (10 ∷ [])) in
    let whole : text ≡ (before ++ ended.0) ++ (10 ∷ [] ++ back) = written ∙ lines_parted id answer tests (k + 1) ∙ ap (λ xs. xs ++ back) next ∙ append_assoc (before ++ ended.0) (10 ∷ []) back in
    let counted : length (before ++ ended.0) ≡ i = length-append before ended.0 in
    let inside : i < length text = omega (arith, ap length whole, length-append (before ++ ended.0) (10 ∷ [] ++ back), length-append (10 ∷ []) back, counted) in
    let byte : get_or text i 0 ≡ 10 = ap (λ xs. get_or xs i 0) whole ∙ ap (λ n. get_or ((before ++ ended.0) ++ (10 ∷ [] ++ back)) n 0) (sym counted ∙ sym (omega arith)) ∙ get_or-append-add (before ++ ended.0) (10 ∷ [] ++ back) 0 0 in
    let stepped : suc k ≡ k + 1 = omega arith in
    let ends : at ≡ i + 1 = omega (arith, begins, ap (λ n. length (lines_of id answer (take n tests))) stepped, ap length next, length-append (before ++ ended.0) (10 ∷ []), counted) in
    subst (λ (n : ℕ). IsCharBoundary text n) (sym ends) (IsCharBoundary-after_ascii text i utf8 inside (omega (arith, byte)))

-- the pieces of tests in a row that have the same answer
pub Pieces-run : (P : TestRow → Text → Type 0) (id : Text) (answer : Bool) (tests : List TestEntry) (i n : ℕ) (text : Text) → i + n ≤ length tests
    → ((k : ℕ) (test : TestEntry) → i ≤ k → k < i + n → IsAt tests k test → P (test_row test) (test_line id answer test))
    → Pieces P (map test_row (take i tests)) text
    → Pieces P (map test_row (take (i + n) tests)) (text ++ lines_of id answer (take n (drop i tests)))
Pieces-run P id answer tests i zero text within each are =
    let none : text ++ lines_of id answer (take zero (drop i tests)) ≡ text = append-nil text in
    let same : i + zero ≡ i = omega arith in
    rw (none, same) are
Pieces-run P id answer tests i (suc n) text within each are =
    let before = Pieces-run P id answer tests i n text (omega (arith, within)) (λ k test low high at. each k test low (omega (arith, high)) at) are in
    let item = some_item tests (i + n) (omega (arith, within)) in
    let line = test_line id answer item.0 in
    let more = Pieces-more P test_row tests (i + n) item.0 _ line item.1.0 item.1.1 before (each (i + n) item.0 (omega arith) (omega arith) item.1) in
    let there : IsAt (drop i tests) n item.0 = (omega (arith, length-drop i tests, within), get_or-drop i tests n item.0 ∙ item.1.1) in
    let stepped : n + 1 ≡ suc n = omega arith in
    let added : (text ++ lines_of id answer (take n (drop i tests))) ++ line ≡ text ++ lines_of id answer (take (suc n) (drop i tests)) =
    append_assoc text (lines_of id answer (take n (drop i tests))) line ∙ ap (λ xs. text ++ xs) (sym (lines_next id answer (drop i tests) n item.0 there)) ∙ ap (λ m. text ++ lines_of id answer (take m (drop i tests))) stepped in
    let counted : (i + n) + 1 ≡ i + suc n = omega arith in
    subst (λ (xs : Text). Pieces P (map test_row (take (i + suc n) tests)) xs) added (subst (λ (m : ℕ). Pieces P (map test_row (take m tests)) ((text ++ lines_of id answer (take n (drop i tests))) ++ line)) counted more)

-- what follows of a text that is as wanted where a call succeeds
pub where_added : {T E P : Type 0} (r : Result T E) (new wanted other : List ℕ) → new ≡ cond (is_ok r) wanted other → (new ≡ wanted → P) → OnOk r P
where_added (Ok value) new wanted other is follows = follows is
where_added (Err error) new wanted other is follows = tt
