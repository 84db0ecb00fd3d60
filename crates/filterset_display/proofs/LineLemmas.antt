-- The lines of a text, one after the other.
use Rattle.std.proofs.Common.{◌≡◌, ℕ, zero, suc, ◌+◌, ◌-◌, ◌<◌, ◌≤◌, Bool, true, false, cond, List, [], ◌∷◌, ◌++◌, length, map, take, drop, get_or, refl, sym, ap, ap₂, subst, ◌∙◌, ◌==◌, arith, add-zero, zero-add, ⊎_elim}
use Rattle.std.specs.{Prelude.sum_by, List.onto_first, List.slice_split}
use Rattle.std.proofs.lemmas.Bool.{cases_lt}
use Rattle.std.proofs.lemmas.List.{drop_more, get_or-map, length-map, length-take-le, map-append, take-append-drop}
use Rattle.std.proofs.lemmas.List.Sums.{sum_by-cons, sum_by_more}
use Rattle.filterset_display.specs.{Columns.Text, Cutting.line_row, Cutting.lines_of, Cutting.numbered}
use Rattle.filterset_display.specs.{Lines.IsIn, Lines.IsLine, Lines.LineRow, Lines.pieces, declared.line.Line.Line}

-- the bytes of these lines, with the position at the end of each
abbrev pub extent : List Text → ℕ
extent texts = sum_by (λ text. length text + 1) texts

extent-cons : (text : Text) (texts : List Text) → extent (text ∷ texts) ≡ length text + 1 + extent texts
extent-cons text texts = sum_by-cons (λ (t : Text). length t + 1) text texts

abbrev pub row : ℕ → ℕ → Text → LineRow
row number start text = record { number = number; start = start; text = text }

-- more lines
pub numbered-append : (number start : ℕ) (texts others : List Text) → numbered number start (texts ++ others) ≡ numbered number start texts ++ numbered (number + length texts) (start + extent texts) others
numbered-append number start [] others = ap₂ (λ n s. numbered n s others) (sym (add-zero number)) (sym (add-zero start))
numbered-append number start (t ∷ texts) others =
    let n : number + 1 + length texts ≡ number + length (t ∷ texts) = omega arith in
    let s : start + (length t + 1) + extent texts ≡ start + extent (t ∷ texts) = omega (arith, extent-cons t texts) in
    ap (λ ls. row number start t ∷ ls)
    (numbered-append (number + 1) (start + (length t + 1)) texts others
    ∙ ap₂ (λ m b. numbered (number + 1) (start + (length t + 1)) texts ++ numbered m b others) n s)

-- the line at a position
pub numbered-at : (number start : ℕ) (texts : List Text) (k : ℕ) (d : LineRow) → k < length texts → get_or (numbered number start texts) k d ≡ row (number + k) (start + extent (take k texts)) (get_or texts k [])
numbered-at number start [] k d h = absurd (omega arith)
numbered-at number start (t ∷ texts) zero d h = ap₂ (λ n s. row n s t) (sym (add-zero number)) (sym (add-zero start))
numbered-at number start (t ∷ texts) (suc k) d h =
    let n : number + 1 + k ≡ number + suc k = omega arith in
    let s : start + (length t + 1) + extent (take k texts) ≡ start + extent (take (suc k) (t ∷ texts)) = omega (arith, extent-cons t (take k texts)) in
    numbered-at (number + 1) (start + (length t + 1)) texts k d (omega arith) ∙ ap₂ (λ m b. row m b (get_or texts k [])) n s

pub length-numbered : (number start : ℕ) (texts : List Text) → length (numbered number start texts) ≡ length texts
length-numbered number start [] = refl
length-numbered number start (t ∷ texts) = ap suc (length-numbered (number + 1) (start + (length t + 1)) texts)

extent-onto_first : (b : ℕ) (texts : List Text) → 0 < extent texts → extent (onto_first b texts) ≡ extent texts + 1
extent-onto_first b [] h = absurd (omega arith)
extent-onto_first b (t ∷ texts) h = omega (arith, extent-cons (b ∷ t) texts, extent-cons t texts)

split_first : (b : ℕ) (bs : List ℕ) (texts : List Text) (test : Bool) → extent texts ≡ length bs + 1 → extent (cond test ([] ∷ texts) (onto_first b texts)) ≡ length (b ∷ bs) + 1
split_first b bs texts true h = omega (arith, extent-cons [] texts)
split_first b bs texts false h = omega (arith, extent-onto_first b texts (omega arith))

-- the lines of a text have its bytes, and one position more
pub extent-slice_split : (p : ℕ → Bool) (bs : List ℕ) → extent (slice_split p bs) ≡ length bs + 1
extent-slice_split p [] = refl
extent-slice_split p (b ∷ bs) = split_first b bs (slice_split p bs) (p b) (extent-slice_split p bs)

-- there are at most as many lines as positions
pub length-le-extent : (texts : List Text) → length texts ≤ extent texts
length-le-extent [] = omega arith
length-le-extent (t ∷ texts) = omega (arith, extent-cons t texts, length-le-extent texts)

-- one more line is cut
pub lines-push : (lines : List Line) (line : Line) (texts : List Text) → map line_row lines ≡ numbered 1 0 texts → line.number ≡ 1 + length texts → line.start ≡ extent texts → map line_row (lines ++ line ∷ []) ≡ numbered 1 0 (texts ++ line.text.now ∷ [])
lines-push lines line texts cut n s =
    map-append line_row lines (line ∷ [])
    ∙ ap₂ (λ ls (l : LineRow). ls ++ l ∷ []) cut (ap₂ (λ m b. row m b line.text.now) n (s ∙ sym (zero-add (extent texts))))
    ∙ sym (numbered-append 1 0 texts (line.text.now ∷ []))

-- a text has as many lines as pieces
pub length-lines : (text : Text) (lines : List Line) → map line_row lines ≡ lines_of text → length lines ≡ length (pieces text)
length-lines text lines cut = sym (length-map lines line_row) ∙ ap length cut ∙ length-numbered 1 0 (pieces text)

-- the line at a position of a text that is cut into these
pub line-at : (text : Text) (lines : List Line) (k : ℕ) (d : Line) → map line_row lines ≡ lines_of text → k < length lines → line_row (get_or lines k d) ≡ row (1 + k) (extent (take k (pieces text))) (get_or (pieces text) k [])
line-at text lines k d cut lt =
    let texts = pieces text in
    let size = length-lines text lines cut in
    sym (get_or-map line_row lines k d (line_row d) lt) ∙ ap (λ ls. get_or ls k (line_row d)) cut
    ∙ numbered-at 1 0 texts k (line_row d) (omega (arith, size))
    ∙ ap (λ s. row (1 + k) s (get_or texts k [])) (zero-add (extent (take k texts)))

-- the piece at a position is a line
pub row-is_line : (text : Text) (k : ℕ) → k < length (pieces text) → IsLine text (row (1 + k) (extent (take k (pieces text))) (get_or (pieces text) k []))
row-is_line text k lt =
    let texts = pieces text in
    record {
      earlier = take k texts;
      later = drop (k + 1) texts;
      cut = sym (take-append-drop k texts) ∙ ap (λ rest. take k texts ++ rest) (drop_more texts k [] lt);
      number_is = omega (arith, length-take-le k texts (omega arith));
      start_is = refl;
    }

pub is-line : (text : Text) (lines : List Line) (k : ℕ) (d : Line) → map line_row lines ≡ lines_of text → k < length lines → IsLine text (line_row (get_or lines k d))
is-line text lines k d cut lt =
    subst (IsLine text) (sym (line-at text lines k d cut lt)) (row-is_line text k (omega (arith, length-lines text lines cut)))

-- what stands before a line ends before what stands before a later one
extent-le : (texts : List Text) (i j : ℕ) → i ≤ j → extent (take i texts) ≤ extent (take j texts)
extent-le [] zero j h = omega arith
extent-le [] (suc i) zero h = omega arith
extent-le [] (suc i) (suc j) h = omega arith
extent-le (t ∷ texts) zero j h = omega arith
extent-le (t ∷ texts) (suc i) zero h = absurd (omega arith)
extent-le (t ∷ texts) (suc i) (suc j) h =
    omega (arith, extent-cons t (take i texts), extent-cons t (take j texts), extent-le texts i j (omega arith))

-- a line ends before a later one begins
pub ends-before : (text : Text) (lines : List Line) (i j : ℕ) (d : Line) → map line_row lines ≡ lines_of text → i < j → j < length lines → (get_or lines i d).start + length (get_or lines i d).text.now < (get_or lines j d).start
ends-before text lines i j d cut lt within =
    let texts = pieces text in
    let size : length lines ≡ length texts = length-lines text lines cut in
    let here = line-at text lines i d cut (omega arith) in
    let there = line-at text lines j d cut within in
    let start : (get_or lines i d).start ≡ extent (take i texts) = ap (λ l. l.start) here in
    let bytes : length (get_or lines i d).text.now ≡ length (get_or texts i []) = ap (λ l. length l.text) here in
    let onward : (get_or lines j d).start ≡ extent (take j texts) = ap (λ l. l.start) there in
    let more = sum_by_more (λ (t : Text). length t + 1) texts i [] (omega arith) in
    let before = extent-le texts (i + 1) j (omega arith) in
    omega (arith, more, before)

-- a position of these lines is in one of them
some-piece : (texts : List Text) (at : ℕ) → at < extent texts → (k : ℕ) × (k < length texts) × (extent (take k texts) ≤ at) × (at ≤ extent (take k texts) + length (get_or texts k []))
some-piece [] at h = absurd (omega arith)
some-piece (t ∷ texts) at h =
    ⊎_elim
    (λ (on : length t < at).
    let (k, within, low, high) = some-piece texts (at - (length t + 1)) (omega (arith, extent-cons t texts)) in
    let more = extent-cons t (take k texts) in
    (suc k, omega arith, omega (arith, more), omega (arith, more)))
    (λ (here : at ≤ length t). (0, omega arith, omega arith, omega arith))
    (cases_lt (length t) at)

-- a position of a text is in one of its lines
pub some-line : (text : Text) (at : ℕ) → at ≤ length text → (line : LineRow) × IsLine text line × IsIn line at
some-line text at within =
    let texts = pieces text in
    let (k, lt, low, high) = some-piece texts at (omega (arith, extent-slice_split (λ b. b == 10) text)) in
    (row (1 + k) (extent (take k texts)) (get_or texts k []), row-is_line text k lt, (low, high))
