-- Lines and columns, a step at a time.
use Rattle.std.proofs.Common.{◌≡◌, ℕ, zero, suc, ◌+◌, ◌-◌, ◌<◌, ◌≤◌, Bool, true, false, cond, not, ◌&&◌, ◌||◌, ◌⊎◌, nat_lt, List, [], ◌∷◌, ◌++◌, length, drop, get_or, Option, Some, None, refl, sym, ap, ◌∙◌, subst, inl, inr, arith, append_assoc, length-append}
use Rattle.std.specs.Prelude.{chars, encode_utf8, encode_utf8_all, sum_by, slice_get}
use Rattle.std.specs.{Char.len_utf8, List.AllPass, List.slice_range, Option.IfSome, Option.MatchOption}
use Rattle.std.specs.Str.{IsCharBoundary, IsUtf8}
use Rattle.std.proofs.{Math.Utf8.scalars, lemmas.Bool.cases_Bool, lemmas.Bool.cases_lt, lemmas.Bool.Decides.nat_tests}
use Rattle.std.proofs.lemmas.List.{drop_more, drop_all, get_or-drop, length-drop, length-take-le, take-append-drop}
use Rattle.std.proofs.lemmas.{List.Sums.sum_by-cons, Option.slice_get-get_or, Option.slice_get_past}
use Rattle.std.proofs.lemmas.Str.{IsCharBoundary-after_ascii, IsCharBoundary-at_seam, IsCharBoundary-from_rest, IsCharBoundary-start, IsUtf8-between, IsUtf8-drop, IsUtf8-past_char, chars-append, chars-nil, chars_past_char, encodes-chars, length-encode, len_utf8_bounds, scalars-chars}
use Rattle.filterset_display.specs.declared.positions.Encoding.{Encoding}
use Rattle.filterset_display.specs.declared.positions.Encoding.TheVariants.{Utf8, Utf16, Utf32}
use Rattle.filterset_display.specs.declared.positions.Position.{Position}
use Rattle.filterset_display.specs.Positions.{IsOffset, IsPosition, StandsAt, Text, bytes_before, column_of, counted, ends_line, is_break, line_starts, starts_from, units_of}

-- ---- columns

bytes-of : (c : ℕ) (bs rest : Text) → bs ≡ encode_utf8 c ++ rest → length bs ≡ len_utf8 c + length rest
bytes-of c bs rest e = ap length e ∙ (length-append (encode_utf8 c) rest ∙ ap (λ n. n + length rest) (length-encode c))

abbrev pub Counted : Encoding → ℕ → ℕ → ℕ → Text → Type 0
Counted encoding total size column rest =
    (column + sum_by (units_of encoding) (chars rest) ≡ total) × (column + length rest ≤ size) × IsUtf8 rest

pub counted-step : (e : Encoding) (total size column units c : ℕ) (bs rest : Text) → bs ≡ encode_utf8 c ++ rest → units ≡ units_of e c
    → units ≤ len_utf8 c → Counted e total size column bs → Counted e total size (column + units) rest
counted-step e total size column units c bs rest is same small (counted, fits, utf8) =
    let sum : sum_by (units_of e) (chars bs) ≡ units_of e c + sum_by (units_of e) (chars rest) =
    ap (sum_by (units_of e)) (chars_past_char bs rest c utf8 is) ∙ sum_by-cons (units_of e) c (chars rest) in
    let bytes = bytes-of c bs rest is in
    (omega arith, omega arith, IsUtf8-past_char bs rest c utf8 is)

pub counted-end : (e : Encoding) (total size column : ℕ) (rest : Text) → length rest ≡ 0 → Counted e total size column rest → column ≡ total
counted-end e total size column [] none (counted, fits, utf8) =
    let sum : sum_by (units_of e) (chars []) ≡ 0 = ap (sum_by (units_of e)) chars-nil in omega arith
counted-end e total size column (b ∷ bs) none counted = absurd (omega arith)

-- ---- offsets

abbrev pub Walked : Encoding → ℕ → ℕ → ℕ → ℕ → Text → Type 0
Walked encoding total size bytes left rest =
    (bytes + bytes_before encoding left (chars rest) ≡ total) × (bytes + length rest ≡ size) × IsUtf8 rest

or_false : (a b : Bool) → a ≡ false → b ≡ false → a || b ≡ false
or_false a b one two = rw (one, two) refl

or_true : (a b : Bool) → (a ≡ true) ⊎ (b ≡ true) → a || b ≡ true
or_true a b (inl one) = rw one refl
or_true true b (inr two) = refl
or_true false b (inr two) = two

goes-on : (e : Encoding) (left c : ℕ) (cs : List ℕ) → is_break c ≡ false → units_of e c ≤ left
    → bytes_before e left (c ∷ cs) ≡ len_utf8 c + bytes_before e (left - units_of e c) cs
unfolding bytes_before
goes-on e left c cs other fits =
    rw (or_false _ _ other (le_lt (units_of e c) left fits)) refl
  where
    le_lt : (u n : ℕ) → u ≤ n → nat_lt n u ≡ false
    le_lt u n h = grind (arith, nat_tests)

stops : (e : Encoding) (left c : ℕ) (cs : List ℕ) → (is_break c ≡ true) ⊎ (left < units_of e c) → bytes_before e left (c ∷ cs) ≡ 0
unfolding bytes_before
stops e left c cs (inl breaks) = let test : is_break c || nat_lt left (units_of e c) ≡ true = or_true _ _ (inl breaks) in rw test refl
stops e left c cs (inr few) =
    let test : is_break c || nat_lt left (units_of e c) ≡ true = or_true _ _ (inr (lt_lt (units_of e c) left few)) in rw test refl
  where
    lt_lt : (u n : ℕ) → n < u → nat_lt n u ≡ true
    lt_lt u n h = grind (arith, nat_tests)

pub walked-step : (e : Encoding) (total size bytes left units len c : ℕ) (bs rest : Text) → bs ≡ encode_utf8 c ++ rest → units ≡ units_of e c
    → len ≡ len_utf8 c → is_break c ≡ false → units ≤ left → Walked e total size bytes left bs → Walked e total size (bytes + len) (left - units) rest
walked-step e total size bytes left units len c bs rest is same len_is other fits (walked, all, utf8) =
    let more : chars bs ≡ c ∷ chars rest = chars_past_char bs rest c utf8 is in
    let enough : units_of e c ≤ left = omega arith in
    let step : bytes_before e left (chars bs) ≡ len_utf8 c + bytes_before e (left - units) (chars rest) =
    ap (bytes_before e left) more ∙ (goes-on e left c (chars rest) other enough ∙ ap (λ n. len_utf8 c + bytes_before e (left - n) (chars rest)) (sym same)) in
    let size = bytes-of c bs rest is in
    (omega arith, omega arith, IsUtf8-past_char bs rest c utf8 is)

pub walked-stop : (e : Encoding) (total size bytes left units c : ℕ) (bs rest : Text) → bs ≡ encode_utf8 c ++ rest → units ≡ units_of e c
    → (is_break c ≡ true) ⊎ (left < units) → Walked e total size bytes left bs → bytes ≡ total
walked-stop e total size bytes left units c bs rest is same end (walked, all, utf8) =
    let P : ℕ → Type 0 = λ n. (is_break c ≡ true) ⊎ (left < n) in
    let zero_more : bytes_before e left (chars bs) ≡ 0 = ap (bytes_before e left) (chars_past_char bs rest c utf8 is) ∙ stops e left c (chars rest) (subst P same end) in
    omega arith

pub walked-end : (e : Encoding) (total size bytes left : ℕ) (rest : Text) → length rest ≡ 0 → Walked e total size bytes left rest
    → bytes ≡ total
unfolding bytes_before
walked-end e total size bytes left [] none (walked, all, utf8) =
    let zero_more : bytes_before e left (chars []) ≡ 0 = ap (bytes_before e left) chars-nil in omega arith
walked-end e total size bytes left (b ∷ bs) none walked = absurd (omega arith)

-- what is before a column is some of the characters
last_true : (a b : Bool) → a && b ≡ true → b ≡ true
last_true true b h = h
last_true false b h = absurd (cc)

before-split : (e : Encoding) (column : ℕ) (cs : List ℕ) → scalars cs ≡ true → (front back : List ℕ)
    × (cs ≡ front ++ back) × (bytes_before e column cs ≡ length (encode_utf8_all front)) × (scalars back ≡ true)
unfolding bytes_before
before-split e column [] are = ([], [], refl, refl, are)
before-split e column (c ∷ cs) are = elim (cases_Bool (is_break c || nat_lt column (units_of e c))) [
  | inl stops ↦ ([], c ∷ cs, refl, rw stops refl, are)
  | inr goes_on ↦
      let (front, back, same, size, rest) = before-split e (column - units_of e c) cs (last_true _ (scalars cs) are) in
      let bytes : length (encode_utf8_all (c ∷ front)) ≡ len_utf8 c + length (encode_utf8_all front) =
      length-append (encode_utf8 c) (encode_utf8_all front) ∙ ap (λ n. n + length (encode_utf8_all front)) (length-encode c) in
      (c ∷ front, back, ap (λ t. c ∷ t) same, rw goes_on (ap (λ n. len_utf8 c + n) size ∙ sym bytes), rest)
]

encodes-split : (cs ds : List ℕ) → encode_utf8_all (cs ++ ds) ≡ encode_utf8_all cs ++ encode_utf8_all ds
encodes-split [] ds = refl
encodes-split (c ∷ cs) ds = ap (λ t. encode_utf8 c ++ t) (encodes-split cs ds) ∙ sym (append_assoc (encode_utf8 c) (encode_utf8_all cs) (encode_utf8_all ds))

-- a character begins there, and it is in the text
pub before-boundary : (e : Encoding) (column : ℕ) (line : Text) → IsUtf8 line → IsCharBoundary line (bytes_before e column (chars line))
before-boundary e column line utf8 =
    let (front, back, same, size, are) = before-split e column (chars line) (scalars-chars line utf8) in
    let parts : line ≡ encode_utf8_all front ++ encode_utf8_all back = sym (encodes-chars line utf8) ∙ (ap encode_utf8_all same ∙ encodes-split front back) in
    let P : ℕ → Type 0 = λ n. IsCharBoundary line n in
    subst P (sym size) (IsCharBoundary-at_seam line (encode_utf8_all front) (encode_utf8_all back) parts (back, (are, refl)))

-- each character that is no line break has a unit
some_unit : (e : Encoding) (c : ℕ) → 0 < counted e c
some_unit Utf8 c = omega (arith, (len_utf8_bounds c).0)
some_unit Utf16 c = elim (cases_Bool (nat_lt c 0x10000)) [ inl small ↦ rw small (omega arith) | inr large ↦ rw large (omega arith) ]
some_unit Utf32 c = omega arith

before-none : (e : Encoding) (cs : List ℕ) → bytes_before e 0 cs ≡ 0
unfolding bytes_before
before-none e [] = refl
before-none e (c ∷ cs) = elim (cases_Bool (is_break c)) [
  | inl breaks ↦ stops e 0 c cs (inl breaks)
  | inr other ↦ let unit : units_of e c ≡ counted e c = rw other refl in stops e 0 c cs (inr (omega (arith, some_unit e c)))
]

before-all : (e : Encoding) (cs rest : List ℕ) → AllPass (λ c. not (is_break c)) cs
    → bytes_before e (sum_by (units_of e) cs) (cs ++ rest) ≡ length (encode_utf8_all cs)
unfolding bytes_before
before-all e [] rest none = before-none e rest
before-all e (c ∷ cs) rest none =
    let other : is_break c ≡ false = no c (none 0 c (omega arith)) in
    let sum : sum_by (units_of e) (c ∷ cs) ≡ units_of e c + sum_by (units_of e) cs = sum_by-cons (units_of e) c cs in
    let left : units_of e c + sum_by (units_of e) cs - units_of e c ≡ sum_by (units_of e) cs = omega arith in
    let later = before-all e cs rest (λ k d lt. none (suc k) d (omega arith)) in
    let bytes : length (encode_utf8_all (c ∷ cs)) ≡ len_utf8 c + length (encode_utf8_all cs) =
    length-append (encode_utf8 c) (encode_utf8_all cs) ∙ ap (λ n. n + length (encode_utf8_all cs)) (length-encode c) in
    let on = goes-on e (units_of e c + sum_by (units_of e) cs) c (cs ++ rest) other (omega arith) in
    ap (λ n. bytes_before e n (c ∷ (cs ++ rest))) sum ∙ (on ∙ (ap (λ n. len_utf8 c + bytes_before e n (cs ++ rest)) left ∙ (ap (λ n. len_utf8 c + n) later ∙ sym bytes)))
  where
    no : (c : ℕ) → not (is_break c) ≡ true → is_break c ≡ false
    no c h = elim (cases_Bool (is_break c)) [ inl breaks ↦ absurd (let e : false ≡ true = rw breaks at h in cc) | inr other ↦ other ]

-- an offset that stands at a position is the position's
pub stands-offset : (e : Encoding) (text : Text) (position : Position) (offset start : ℕ) → IsUtf8 text → IsCharBoundary text start
    → slice_get (line_starts text) position.line ≡ Some start → StandsAt e text position offset
    → start + bytes_before e position.character (chars (drop start text)) ≡ offset
stands-offset e text position offset start utf8 begins is (first, here, order, boundary, none, column) =
    let P : ℕ → Type 0 = λ n. (n ≤ offset) × AllPass (λ c. not (is_break c)) (chars (slice_range text n offset)) × (position.character ≡ column_of e (slice_range text n offset)) in
    let (within, line, columns) = subst P (some_same first start (sym here ∙ is)) (order, none, column) in
    let part = slice_range text start offset in
    let part_utf8 : IsUtf8 part = IsUtf8-between text start offset utf8 within begins boundary in
    let rest = drop (offset - start) (drop start text) in
    let cs : chars (drop start text) ≡ chars part ++ chars rest = ap chars (sym (take-append-drop (offset - start) (drop start text))) ∙ chars-append part rest part_utf8 in
    let size : length (encode_utf8_all (chars part)) ≡ length part = ap length (encodes-chars part part_utf8) in
    let left : length (drop start text) ≡ length text - start = length-drop start text in
    let fits = boundary.0 in
    let width : length part ≡ offset - start = length-take-le (offset - start) (drop start text) (omega arith) in
    let walk : bytes_before e position.character (chars (drop start text)) ≡ length (encode_utf8_all (chars part)) =
    ap (λ n. bytes_before e n (chars (drop start text))) columns ∙ (ap (bytes_before e (column_of e part)) cs ∙ before-all e (chars part) (chars rest) line) in
    omega arith
  where
    some_same : (a b : ℕ) → Some a ≡ Some b → a ≡ b
    some_same a b h = cc

-- ---- the beginnings of lines

pub starts-turn : (text : Text) (at : ℕ) → at < length text
    → starts_from at (drop at text)
    ≡ cond (ends_line (get_or text at 0) (get_or text (at + 1) 0)) ((at + 1) ∷ starts_from (at + 1) (drop (at + 1) text)) (starts_from (at + 1) (drop (at + 1) text))
unfolding starts_from
starts-turn text at within =
    let next : get_or (drop (at + 1) text) 0 0 ≡ get_or text (at + 1) 0 = get_or-drop (at + 1) text 0 0 ∙ ap (λ k. get_or text k 0) (let e : at + 1 + 0 ≡ at + 1 = omega arith in e) in
    ap (starts_from at) (drop_more text at 0 within) ∙ rw next refl

pub starts-step : (text : Text) (at : ℕ) (found all more : List ℕ) → at < length text → found ++ starts_from at (drop at text) ≡ all
    → (ends_line (get_or text at 0) (get_or text (at + 1) 0) ≡ true) × (more ≡ found ++ (at + 1) ∷ [])
    ⊎ (ends_line (get_or text at 0) (get_or text (at + 1) 0) ≡ false) × (more ≡ found)
    → more ++ starts_from (at + 1) (drop (at + 1) text) ≡ all
starts-step text at found all more within is (inl (ends, added)) =
    let rest = starts_from (at + 1) (drop (at + 1) text) in
    ap (λ t. t ++ rest) added ∙ (append_assoc found ((at + 1) ∷ []) rest ∙ (ap (λ t. found ++ t) (sym (starts-turn text at within ∙ rw ends refl)) ∙ is))
starts-step text at found all more within is (inr (goes_on, same)) =
    ap (λ t. t ++ (starts_from (at + 1) (drop (at + 1) text))) same ∙ (ap (λ t. found ++ t) (sym (starts-turn text at within ∙ rw goes_on refl)) ∙ is)

pub starts-none : (text found all : List ℕ) (at : ℕ) → length text ≤ at → found ++ starts_from at (drop at text) ≡ all → found ++ [] ≡ all
unfolding starts_from
starts-none text found all at over is = ap (λ t. found ++ starts_from at t) (sym (drop_all at text over)) ∙ is

-- a line that is not the first begins behind a byte of a line break
abbrev Behind : ℕ → Text → ℕ → Type 0
Behind at text start = (i : ℕ) × (start ≡ at + (i + 1)) × (i < length text) × (get_or text i 0 < 128)

behind_next : (at b start : ℕ) (bs : Text) → Behind (at + 1) bs start → Behind at (b ∷ bs) start
behind_next at b start bs (i, place, within, small) = (suc i, omega arith, omega arith, small)

behind_first : (at b k start : ℕ) (bs : Text) (starts : List ℕ) → ends_line b (get_or bs 0 0) ≡ true
    → ((j : ℕ) → slice_get starts j ≡ Some start → Behind (at + 1) bs start) → slice_get ((at + 1) ∷ starts) k ≡ Some start → Behind at (b ∷ bs) start
behind_first at b zero start bs starts ends later is =
    let place : at + 1 ≡ start = cc in
    (0, omega arith, omega arith, grind (arith, nat_tests))
behind_first at b (suc j) start bs starts ends later is = behind_next at b start bs (later j is)

behind_break : (text : Text) (at k start : ℕ) → slice_get (starts_from at text) k ≡ Some start → Behind at text start
unfolding starts_from
behind_break [] at k start is = absurd (cc)
behind_break (b ∷ bs) at k start is = elim (cases_Bool (ends_line b (get_or bs 0 0))) [
  | inl ends ↦ behind_first at b k start bs (starts_from (at + 1) bs) ends (λ j h. behind_break bs (at + 1) j start h) (rw ends at is)
  | inr goes ↦ behind_next at b start bs (behind_break bs (at + 1) k start (rw goes at is))
]

pub start-boundary : (text : Text) (k start : ℕ) → IsUtf8 text → slice_get (line_starts text) k ≡ Some start → IsCharBoundary text start
start-boundary text zero start utf8 is =
    let P : ℕ → Type 0 = λ n. IsCharBoundary text n in
    let zero_start : 0 ≡ start = cc in
    subst P zero_start (IsCharBoundary-start text utf8)
start-boundary text (suc k) start utf8 is =
    let (i, place, within, small) = behind_break text 0 k start is in
    let P : ℕ → Type 0 = λ n. IsCharBoundary text n in
    let same : i + 1 ≡ start = omega arith in
    subst P same (IsCharBoundary-after_ascii text i utf8 within small)

pub position-is : (e : Encoding) (text : Text) (starts : List ℕ) (line offset column : ℕ) (front : Text) → IsUtf8 text → starts ≡ line_starts text
    → line < length starts → get_or starts line 0 ≤ offset → (line + 1 < length starts → offset < get_or starts (line + 1) 0)
    → (IsCharBoundary text (get_or starts line 0) → front ≡ slice_range text (get_or starts line 0) offset)
    → column ≡ column_of e front → IsPosition e text offset (record { line = line; character = column })
position-is e text starts line offset column front utf8 indexed within begins last is counted =
    let P : List ℕ → Type 0 = λ s. (slice_get s line ≡ Some (get_or starts line 0)) × IfSome (slice_get s (line + 1)) (λ next. offset < next) in
    let next : IfSome (slice_get starts (line + 1)) (λ next. offset < next) = elim (cases_lt (line + 1) (length starts)) [
      | inl more ↦
          let Q : Option ℕ → Type 0 = λ o. IfSome o (λ next. offset < next) in
          subst Q (sym (slice_get-get_or starts (line + 1) 0 more)) (last more)
      | inr end ↦ let Q : Option ℕ → Type 0 = λ o. IfSome o (λ next. offset < next) in subst Q (sym (slice_get_past starts (line + 1) end)) tt
    ] in
    let (here, behind) = subst P indexed (slice_get-get_or starts line 0 within, next) in
    (get_or starts line 0, here, begins, behind, counted ∙ ap (column_of e) (is (start-boundary text line (get_or starts line 0) utf8 here)))

pub offset-is : (e : Encoding) (text rest : Text) (position : Position) (start offset bytes : ℕ) → IsUtf8 text
    → slice_get (line_starts text) position.line ≡ Some start → (IsCharBoundary text start → rest ≡ drop start text)
    → bytes ≡ bytes_before e position.character (chars rest) → offset ≡ start + bytes
    → IsOffset e text position offset × IsCharBoundary text offset
    × ((other : ℕ) → StandsAt e text position other → offset ≡ other)
offset-is e text rest position start offset bytes utf8 here is walked sum =
    let begins = start-boundary text position.line start utf8 here in
    let size : bytes ≡ bytes_before e position.character (chars (drop start text)) = walked ∙ ap (λ t. bytes_before e position.character (chars t)) (is begins) in
    let P : Option ℕ → Type 0 = λ o. MatchOption o (offset ≡ length text) (λ start. offset ≡ start + bytes_before e position.character (chars (drop start text))) in
    let value : offset ≡ start + bytes_before e position.character (chars (drop start text)) = sum ∙ ap (λ n. start + n) size in
    let inside = before-boundary e position.character (drop start text) (IsUtf8-drop text start utf8 begins) in
    let Q : ℕ → Type 0 = λ n. IsCharBoundary text n in (
      subst P (sym here) value,
      subst Q (sym value) (IsCharBoundary-from_rest text start (bytes_before e position.character (chars (drop start text))) begins.0 inside),
      λ other stands. value ∙ stands-offset e text position other start utf8 begins here stands,
    )

pub offset-past : (e : Encoding) (text : Text) (position : Position) → slice_get (line_starts text) position.line ≡ None
    → IsOffset e text position (length text) × ((other : ℕ) → StandsAt e text position other → length text ≡ other)
offset-past e text position none =
    let P : Option ℕ → Type 0 = λ o. MatchOption o (length text ≡ length text) (λ start. length text ≡ start + bytes_before e position.character (chars (drop start text))) in
    (subst P (sym none) refl, λ other stands. let h : None ≡ Some stands.0 = sym none ∙ stands.1 in absurd (cc))
