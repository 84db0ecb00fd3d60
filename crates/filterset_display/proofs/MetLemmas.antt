-- The lines that the code draws are those that a stretch of the text meets.
use Rattle.std.proofs.Common.{◌≡◌, ℕ, ◌+◌, ◌-◌, ◌<◌, ◌≤◌, Bool, true, false, nat_le, max, not, List, [], ◌∷◌, ◌++◌, Contains, drop, length, get_or, map, take, refl, sym, ap, ap₂, subst, ◌∙◌, append_assoc, arith, zero-add, inl, inr, ⊎_elim, Some}
use Rattle.std.specs.List.Sorted.{IsNonDecreasingBy, IsPartitionPoint, IsPartitionedBy}
use Rattle.std.proofs.Math.Nat.{le-max_left}
use Rattle.std.proofs.lemmas.Bool.{not-false as rises, not-true as falls, cases_lt, leb-false, leb-true, lt-leb}
use Rattle.std.proofs.lemmas.List.{get_or-drop, get_or-map, get_or-take, get_or_at, length-append, length-drop, length-map, length-take}
use Rattle.std.proofs.lemmas.List.Sorted.{IsNonDecreasingBy-take}
use Rattle.filterset_display.specs.{Columns.Text, Cutting.line_row, Cutting.lines_of, Cutting.numbered, Cutting.reaches}
use Rattle.filterset_display.specs.Drawings.{DrawnSpan, bar, location_part, marked_lines}
use Rattle.filterset_display.specs.Lines.{AreMet, IsLine, LineRow, Meets, column_of, from_of, to_of}
use Rattle.filterset_display.specs.Locations.{StandsAt, StandsIn}
use Rattle.filterset_display.specs.declared.{drawing.Margin.Margin, line.Line.Line, source.Location.Location}
use Rattle.filterset_display.proofs.LineLemmas.{ends-before, extent, is-line, line-at, numbered-append, row, some-line}
use Rattle.filterset_faults.specs.declared.span.SourceSpan.{SourceSpan}

-- a line that begins no later than the last position of a stretch, and does not end before it, is met
meets : (from to : ℕ) (line : LineRow) → line.start ≤ max from (to - 1) → from ≤ line.start + length line.text → Meets from to line
meets from to line begun reached =
    ⊎_elim
    (λ (behind : from < line.start). (line.start, (omega arith, omega arith), omega arith, inr (omega arith)))
    (λ (low : line.start ≤ from). (from, (low, reached), omega arith, inl refl))
    (cases_lt from line.start)

-- the code finds each line of the text
found : (text : Text) (line : LineRow) → IsLine text line → (before : List LineRow) × (behind : List LineRow) × (lines_of text ≡ before ++ line ∷ behind)
found text line is =
    let e = is.earlier in
    let number : 1 + length e ≡ line.number = omega (arith, is.number_is) in
    let start : 0 + extent e ≡ line.start = zero-add (extent e) ∙ sym is.start_is in
    let same : row (1 + length e) (0 + extent e) line.text ≡ line = ap₂ (λ n s. row n s line.text) number start in
    let behind = numbered (1 + length e + 1) (0 + extent e + (length line.text + 1)) is.later in (
      numbered 1 0 e,
      behind,
      ap (numbered 1 0) is.cut ∙ numbered-append 1 0 e (line.text ∷ is.later) ∙ ap (λ l. numbered 1 0 e ++ l ∷ behind) same,
    )

-- The lines that begin no later than the last position of a stretch, but for those that end before it, are those that it meets.
pub met : (text : Text) (lines : List Line) (from to count first : ℕ) (d : Line) → map line_row lines ≡ lines_of text → count ≤ length lines → first ≤ count
    → ((k : ℕ) → k < count → (get_or lines k d).start ≤ max from (to - 1))
    → ((k : ℕ) → count ≤ k → k < length lines → max from (to - 1) < (get_or lines k d).start)
    → ((k : ℕ) → k < first → (get_or lines k d).start + length (get_or lines k d).text.now < from)
    → ((k : ℕ) → first ≤ k → k < count → from ≤ (get_or lines k d).start + length (get_or lines k d).text.now)
    → AreMet text from to (map line_row (drop first (take count lines)))
met text lines from to count first d cut within below begun behind missed reached =
    let kept = drop first (take count lines) in
    let size : length kept ≡ count - first = omega (arith, length-drop first (take count lines), length-take count lines) in
    let counted : length (map line_row kept) ≡ length kept = length-map kept line_row in
    let at : (k : ℕ) (e : LineRow) → k < length kept → get_or (map line_row kept) k e ≡ line_row (get_or lines (first + k) d) =
    λ k e lt.
    get_or-map line_row kept k d e lt
    ∙ ap line_row (get_or-drop first (take count lines) k d ∙ get_or-take count lines (first + k) d (omega arith)) in
    record {
      exactly = λ line. (
        (λ (k, lt, is).
            let inside : k < length kept = omega arith in
            let same : line_row (get_or lines (first + k) d) ≡ line = sym (at k line inside) ∙ is in
            subst (λ l. IsLine text l × Meets from to l) same (
              is-line text lines (first + k) d cut (omega arith),
              meets from to (line_row (get_or lines (first + k) d)) (begun (first + k) (omega arith)) (reached (first + k) (omega arith) (omega arith)),
            )),
        (λ (is, (position, (low, high), onward, inside)).
            let (before, rest, whole) = found text line is in
            let n = length before in
            let rows : map line_row lines ≡ before ++ line ∷ rest = cut ∙ whole in
            let lt : n < length lines = omega (arith, length-map lines line_row, ap length rows, length-append before (line ∷ rest)) in
            let same : line_row (get_or lines n d) ≡ line =
            sym (get_or-map line_row lines n d line lt) ∙ ap (λ ls. get_or ls n line) rows ∙ get_or_at before line rest line n refl in
            let start : (get_or lines n d).start ≡ line.start = ap (λ l. l.start) same in
            let bytes : length (get_or lines n d).text.now ≡ length line.text = ap (λ l. length l.text) same in
            let least : position ≤ max from (to - 1) =
            ⊎_elim (λ (e : position ≡ from). omega (arith, le-max_left from (to - 1))) (λ (l : position < to). omega arith) inside in
            let left : n < count =
            ⊎_elim (λ (l : n < count). l)
            (λ (g : count ≤ n).
            let h = behind n g lt in
            absurd (omega arith))
            (cases_lt n count) in
            let right : first ≤ n =
            ⊎_elim
            (λ (l : n < first).
            let h = missed n l in
            absurd (omega arith))
            (λ (g : first ≤ n). g)
            (cases_lt n first) in
            let here : first + (n - first) ≡ n = omega arith in
            (n - first, omega arith, at (n - first) line (omega arith) ∙ ap (λ k. line_row (get_or lines k d)) here ∙ same)),
      );
      in_order = λ i j e lt le.
          let one : (get_or (map line_row kept) i e).number ≡ 1 + (first + i) =
          ap (λ l. l.number) (at i e (omega arith) ∙ line-at text lines (first + i) d cut (omega arith)) in
          let other : (get_or (map line_row kept) j e).number ≡ 1 + (first + j) =
          ap (λ l. l.number) (at j e (omega arith) ∙ line-at text lines (first + j) d cut (omega arith)) in
          omega arith;
    }

-- lines begin in their order
pub starts-rise : (text : Text) (lines : List Line) → map line_row lines ≡ lines_of text → IsNonDecreasingBy (λ (line : Line). line.start) lines
starts-rise text lines cut i j d le within =
    ⊎_elim
    (λ (lt : i < j).
    let h = ends-before text lines i j d cut lt within in
    omega arith)
    (λ (ge : j ≤ i).
    let same : i ≡ j = omega arith in
    subst (λ n. (get_or lines i d).start ≤ (get_or lines n d).start) same (omega arith))
    (cases_lt i j)

-- and end in it
ends-rise : (text : Text) (lines : List Line) → map line_row lines ≡ lines_of text → IsNonDecreasingBy (λ (line : Line). line.start + length line.text.now) lines
ends-rise text lines cut i j d le within =
    ⊎_elim
    (λ (lt : i < j).
    let h = ends-before text lines i j d cut lt within in
    omega arith)
    (λ (ge : j ≤ i).
    let same : i ≡ j = omega arith in
    subst (λ n. (get_or lines i d).start + length (get_or lines i d).text.now ≤ (get_or lines n d).start + length (get_or lines n d).text.now) same (omega arith))
    (cases_lt i j)

-- of the first lines of a text, those that end before a position come first
pub ends-part : (text : Text) (lines : List Line) (from count : ℕ) → map line_row lines ≡ lines_of text → IsPartitionedBy (λ (line : Line). not (reaches from (line_row line))) (take count lines)
ends-part text lines from count cut i j d le within missed =
    let begun = take count lines in
    let up = IsNonDecreasingBy-take (λ (line : Line). line.start + length line.text.now) count lines (ends-rise text lines cut) i j d le within in
    let one = get_or begun i d in
    let other = get_or begun j d in
    let later : other.start + length other.text.now < from = leb-false from (other.start + length other.text.now) (falls (reaches from (line_row other)) missed) in
    ap not (lt-leb from (one.start + length one.text.now) (omega arith))

-- what two binary searches leave of the lines are those that a stretch meets
pub met-between : (text : Text) (lines : List Line) (from to count first : ℕ) → map line_row lines ≡ lines_of text → count ≤ length lines → first ≤ length (take count lines)
    → IsPartitionPoint (λ (line : Line). nat_le line.start (max from (to - 1)) ≡ true) (λ (line : Line). nat_le line.start (max from (to - 1)) ≡ false) lines count
    → IsPartitionPoint (λ (line : Line). not (reaches from (line_row line)) ≡ true) (λ (line : Line). not (reaches from (line_row line)) ≡ false) (take count lines) first
    → AreMet text from to (map line_row (drop first (take count lines)))
met-between text lines from to count first cut within below (early, late) (missed, reached) =
    let d : Line = record { number = 0; start = 0; text = record { ref_ptr = (0, 0); now = [] } } in
    let size = length-take count lines in
    let at : (k : ℕ) → k < count → get_or (take count lines) k d ≡ get_or lines k d = λ k lt. get_or-take count lines k d lt in
    let end : (k : ℕ) → ℕ = λ k. (get_or lines k d).start + length (get_or lines k d).text.now in
    met text lines from to count first d cut within (omega arith)
    (λ k lt. leb-true (get_or lines k d).start (max from (to - 1)) (early k d (omega arith) lt))
    (λ k le lt. leb-false (get_or lines k d).start (max from (to - 1)) (late k d le lt))
    (λ k lt. leb-false from (end k)
    (subst (λ (l : Line). reaches from (line_row l) ≡ false) (at k (omega arith))
    (falls (reaches from (line_row (get_or (take count lines) k d))) (missed k d (omega arith) lt))))
    (λ k le lt. leb-true from (end k)
    (subst (λ (l : Line). reaches from (line_row l) ≡ true) (at k lt)
    (rises (reaches from (line_row (get_or (take count lines) k d))) (reached k d le (omega arith)))))

-- the first line that an empty stretch meets has its position
pub stands : (text : Text) (lines : List Line) (at position : ℕ) (d : Line) (location : Location) → AreMet text at at (map line_row lines) → at ≤ length text → location.line ≡ (get_or lines 0 d).number → location.column ≡ column_of (line_row (get_or lines 0 d)) position + 1 → StandsIn text at position location
stands text lines at position d location are_met within number column =
    let (line, is, inside) = some-line text at within in
    let (k, lt, same) = (are_met.exactly line).1 (is, (at, inside, omega arith, inl refl)) in
    let some : 0 < length lines = omega (arith, length-map lines line_row) in
    let first = line_row (get_or lines 0 d) in
    let held : Contains (map line_row lines) first = (0, omega (arith, length-map lines line_row), get_or-map line_row lines 0 d first some) in
    let (first_is, (here, in_it, onward, reason)) = (are_met.exactly first).0 held in
    let is_at : here ≡ at = ⊎_elim {C = here ≡ at} (λ (e : here ≡ at). e) (λ (l : here < at). absurd (omega arith)) reason in
    (first, first_is, (omega arith, omega arith), number, column)

-- an empty stretch meets a line
pub met-some : (text : Text) (lines : List Line) (at : ℕ) → AreMet text at at (map line_row lines) → at ≤ length text → 0 < length lines
met-some text lines at are_met within =
    let (line, is, inside) = some-line text at within in
    let (k, lt, same) = (are_met.exactly line).1 (is, (at, inside, omega arith, inl refl)) in
    omega (arith, length-map lines line_row)

-- what is written of a span, piece by piece
pub span-drawn : (margin : Margin) (origin text : Text) (span : SourceSpan) (location : Location) (rows : List LineRow) (from to : ℕ) (old located barred new : Text) → StandsAt text (from_of text span) location → AreMet text from to rows → from ≡ from_of text span → to ≡ to_of text span → located ≡ old ++ location_part margin origin location → barred ≡ located ++ bar margin → new ≡ barred ++ marked_lines margin from to rows → (part : Text) × (new ≡ old ++ part) × DrawnSpan margin origin text (Some span) part
span-drawn margin origin text span location rows from to old located barred new stands are_met from_is to_is first second third =
    let start = from_of text span in
    let end = to_of text span in
    let front = location_part margin origin location in
    let marked = marked_lines margin start end rows in
    let same : barred ++ marked_lines margin from to rows ≡ barred ++ marked =
    λ i. barred ++ marked_lines margin (from_is i) (to_is i) rows in
    let found : AreMet text start end rows = subst (λ n. AreMet text start n rows) to_is (subst (λ n. AreMet text n to rows) from_is are_met) in
    let whole : new ≡ old ++ (front ++ (bar margin ++ marked)) =
    third ∙ same ∙ ap (λ bs. bs ++ marked) (second ∙ ap (λ bs. bs ++ bar margin) first)
    ∙ append_assoc (old ++ front) (bar margin) marked ∙ append_assoc old front (bar margin ++ marked) in
    (front ++ (bar margin ++ marked), whole, (location, rows, stands, found, refl))
