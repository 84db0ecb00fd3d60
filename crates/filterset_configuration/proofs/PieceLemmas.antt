-- How the grammar reads a string, piece by piece.
use Rattle.std.proofs.Common.{◌≡◌, ℕ, zero, suc, ◌+◌, ◌-◌, ◌<◌, ◌≤◌, ◌⊎◌, Bool, true, false, not, cond, ◌&&◌, ◌||◌, ◌==◌, List, [], ◌∷◌, ◌++◌, length, drop, replicate, Option, Some, None, is_some, unwrap_or, option_map, option_and_then, refl, sym, ap, ◌∙◌, subst, inl, inr, arith, append_assoc, length-append, length-drop, eqb-true, ltb, add-zero, get_or, get_or-drop}
use Rattle.std.specs.{Char.encode_utf8, List.prefix_len}
use Rattle.std.proofs.lemmas.Bool.{cases_Bool, and_parts, true≢false, ltb-false}
use Rattle.std.proofs.lemmas.List.{append-nil, drop-drop, drop_at, length-replicate}
use Rattle.std.proofs.lemmas.{Option.cond_some, Option.same_Some, Option.some_pair_parts, Str.encode_same}
use Rattle.toml_parser.specs.Lexical.{Read, first, skip_from, skip_turn, skip_ws, starts_newline}
use Rattle.toml_parser.specs.Strings.{after_piece, body, escape, escape_char, hex_escape, hex_len, is_plain, prepend, special}
use Rattle.filterset_json.specs.Shape.{Text}
use Rattle.filterset_configuration.specs.declared.content.{Delimiter.Delimiter, PieceEnd.PieceEnd}
use Rattle.filterset_configuration.specs.declared.stretch.Stretch.{Stretch}
use Rattle.filterset_configuration.specs.Pieces.{EndsPiece, IsReadFrom, ReadsEscape, ReadsPiece, is_end, next_piece, no_piece, read_piece}

-- ---- the grammar's `body`, a piece at a time

body-zero : (delim : ℕ) (multi : Bool) (rest : Text) → body delim multi zero rest ≡ None
unfolding body
body-zero delim multi rest = refl

body-suc : (d : Delimiter) (n : ℕ) (rest : Text)
    → body d.byte d.is_multi (suc n) rest ≡ option_and_then (λ p. after_piece (body d.byte d.is_multi n) p.0 p.1) (read_piece d rest)
unfolding body
body-suc d n rest = elim (cases_Bool (is_plain d.byte d.is_multi (first rest))) [
  | inl plain ↦ rw plain
  | inr other ↦ rw other
]

-- the body goes on with a piece
pub record GoesOn (d : Delimiter) (rest text after : Text) : Type 0 where
  pub bytes : Text
  pub next : Text
  pub more : Text
  pub fuel : ℕ
  pub reads : read_piece d rest ≡ Some (Some bytes, next)
  pub is : text ≡ bytes ++ more
  pub left : body d.byte d.is_multi fuel next ≡ Some (more, after)

prepend_some : (front : Text) (r : Read Text) (text after : Text) → prepend front r ≡ Some (text, after)
    → (more : Text) × (r ≡ Some (more, after)) × (text ≡ front ++ more)
prepend_some front None text after h = absurd (cc)
prepend_some front (Some p) text after h =
    let parts = some_pair_parts _ _ _ _ h in
    (p.0, ap (λ a. Some (p.0, a)) parts.1, sym parts.0)

abbrev Steps : Delimiter → Text → Text → Text → Type 0
Steps d rest text after = ((read_piece d rest ≡ Some (None, after)) × (text ≡ [])) ⊎ GoesOn d rest text after

after_read : (d : Delimiter) (n : ℕ) (rest : Text) (piece : Option Text) (next text after : Text) → read_piece d rest ≡ Some (piece, next)
    → after_piece (body d.byte d.is_multi n) piece next ≡ Some (text, after) → Steps d rest text after
after_read d n rest None next text after read h =
    let parts = some_pair_parts _ _ _ _ h in
    let end : Text → Read (Option Text) = λ a. Some (None, a) in
    inl (read ∙ ap end parts.1, sym parts.0)
after_read d n rest (Some bytes) next text after read h =
    let (more, left, is) = prepend_some bytes _ text after h in
    inr record { bytes = bytes; next = next; more = more; fuel = n; reads = read; is = is; left = left }

after_maybe : (d : Delimiter) (n : ℕ) (rest : Text) (r : Read (Option Text)) (text after : Text) → read_piece d rest ≡ r
    → option_and_then (λ p. after_piece (body d.byte d.is_multi n) p.0 p.1) r ≡ Some (text, after) → Steps d rest text after
after_maybe d n rest None text after read h = absurd (cc)
after_maybe d n rest (Some p) text after read h = after_read d n rest p.0 p.1 text after read h

pub body_step : (d : Delimiter) (n : ℕ) (rest text after : Text) → body d.byte d.is_multi n rest ≡ Some (text, after) → Steps d rest text after
body_step d zero rest text after h = let none = body-zero d.byte d.is_multi rest in absurd (cc)
body_step d (suc n) rest text after h = after_maybe d n rest (read_piece d rest) text after refl (sym (body-suc d n rest) ∙ h)

-- ---- where a string ends

-- what `special` gives, by its tests
abbrev specials : Bool → Bool → Bool → Bool → Bool → Bool → ℕ → Read Text → Text → Read (Option Text)
specials here multi three few slash newline delim escaped rest =
    cond here (cond multi (cond three (Some (None, drop 3 rest)) (cond few (Some (Some (delim ∷ []), drop 1 rest)) None)) (Some (None, drop 1 rest)))
    (cond slash (option_map (λ p. (Some p.0, p.1)) escaped) (cond newline (Some (Some (first rest ∷ []), drop 1 rest)) None))

abbrev is_here : Delimiter → Text → Bool
is_here d rest = first rest == d.byte

abbrev has_three : Delimiter → Text → Bool
has_three d rest = prefix_len (λ c. c == d.byte) rest == 3

abbrev has_few : Delimiter → Text → Bool
has_few d rest = ltb (prefix_len (λ c. c == d.byte) rest) 6

abbrev has_newline : Delimiter → Text → Bool
has_newline d rest = d.is_multi && starts_newline rest

special-by_tests : (d : Delimiter) (rest : Text)
    → special d.byte d.is_multi rest ≡ specials (is_here d rest) d.is_multi (has_three d rest) (has_few d rest) (first rest == 92) (has_newline d rest)
    d.byte (escape d.is_multi (drop 1 rest)) rest
unfolding special
special-by_tests d rest = refl

ends : (multi three few slash newline : Bool) (delim : ℕ) (escaped : Read Text) (rest : Text) → (not multi || three) ≡ true
    → (after : Text) × (specials true multi three few slash newline delim escaped rest ≡ Some (None, after))
ends true true few slash newline delim escaped rest h = (drop 3 rest, refl)
ends true false few slash newline delim escaped rest h = absurd (cc)
ends false three few slash newline delim escaped rest h = (drop 1 rest, refl)

not_end : (bytes next after : Text) (r : Read (Option Text)) → r ≡ Some (Some bytes, next) → r ≡ Some (None, after) → ⊥
not_end bytes next after r some none = let parts = some_pair_parts _ _ _ _ (sym some ∙ none) in absurd (cc)

goes_on : (here multi three few slash newline : Bool) (delim : ℕ) (escaped : Read Text) (rest after : Text) → (here && (not multi || three)) ≡ false
    → specials here multi three few slash newline delim escaped rest ≡ Some (None, after) → ⊥
goes_on true true true few slash newline delim escaped rest after h e = absurd (cc)
goes_on true true false true slash newline delim escaped rest after h e = not_end (delim ∷ []) (drop 1 rest) after _ refl e
goes_on true true false false slash newline delim escaped rest after h e = absurd (cc)
goes_on true false three few slash newline delim escaped rest after h e = absurd (cc)
goes_on false multi three few true newline delim None rest after h e = absurd (cc)
goes_on false multi three few true newline delim (Some p) rest after h e = not_end p.0 p.1 after _ refl e
goes_on false multi three few false true delim escaped rest after h e = not_end (first rest ∷ []) (drop 1 rest) after _ refl e
goes_on false multi three few false false delim escaped rest after h e = absurd (cc)

read_piece-special : (d : Delimiter) (rest : Text) → is_plain d.byte d.is_multi (first rest) ≡ false → read_piece d rest ≡ special d.byte d.is_multi rest
read_piece-special d rest h = rw h

read_piece-plain : (d : Delimiter) (rest : Text) → is_plain d.byte d.is_multi (first rest) ≡ true → read_piece d rest ≡ Some (Some (first rest ∷ []), drop 1 rest)
read_piece-plain d rest h = rw h

delimiter_not_plain : (d : Delimiter) (rest : Text) → (first rest == d.byte) ≡ true → is_plain d.byte d.is_multi (first rest) ≡ false
delimiter_not_plain d rest h = rw h

pub end_reads : (d : Delimiter) (rest : Text) → is_end d rest ≡ true → (after : Text) × (read_piece d rest ≡ Some (None, after))
end_reads d rest h =
    let (here, last) = and_parts (is_here d rest) (not d.is_multi || has_three d rest) h in
    let (after, e) = ends d.is_multi (has_three d rest) (has_few d rest) (first rest == 92) (has_newline d rest) d.byte (escape d.is_multi (drop 1 rest)) rest last in
    let P : Bool → Type 0 = λ b.
    specials b d.is_multi (has_three d rest) (has_few d rest) (first rest == 92) (has_newline d rest) d.byte (escape d.is_multi (drop 1 rest)) rest
    ≡ Some (None, after) in
    (after, read_piece-special d rest (delimiter_not_plain d rest here) ∙ (special-by_tests d rest ∙ subst P (sym here) e))

pub end_not_read : (d : Delimiter) (rest after : Text) → is_end d rest ≡ false → read_piece d rest ≡ Some (None, after) → ⊥
end_not_read d rest after h read = elim (cases_Bool (is_plain d.byte d.is_multi (first rest))) [
  | inl plain ↦ not_end (first rest ∷ []) (drop 1 rest) after (read_piece d rest) (read_piece-plain d rest plain) read
  | inr other ↦
      goes_on (is_here d rest) d.is_multi (has_three d rest) (has_few d rest) (first rest == 92) (has_newline d rest) d.byte (escape d.is_multi (drop 1 rest))
      rest after h (sym (special-by_tests d rest) ∙ sym (read_piece-special d rest other) ∙ read)
]

-- ---- how long a piece is

-- a byte that begins no escape
one_byte : (here multi three few slash newline : Bool) (delim : ℕ) (escaped : Read Text) (rest bytes next : Text) → (here ≡ false → slash ≡ true → ⊥)
    → specials here multi three few slash newline delim escaped rest ≡ Some (Some bytes, next) → (length bytes ≡ 1) × (next ≡ drop 1 rest)
one_byte true true true few slash newline delim escaped rest bytes next h e = absurd (not_end bytes next (drop 3 rest) _ e refl)
one_byte true true false true slash newline delim escaped rest bytes next h e =
    let parts = some_pair_parts _ _ _ _ e in (ap length (sym (same_Some _ _ parts.0)), sym parts.1)
one_byte true true false false slash newline delim escaped rest bytes next h e = absurd (cc)
one_byte true false three few slash newline delim escaped rest bytes next h e = absurd (not_end bytes next (drop 1 rest) _ e refl)
one_byte false multi three few true newline delim escaped rest bytes next h e = absurd (h refl refl)
one_byte false multi three few false true delim escaped rest bytes next h e =
    let parts = some_pair_parts _ _ _ _ e in (ap length (sym (same_Some _ _ parts.0)), sym parts.1)
one_byte false multi three few false false delim escaped rest bytes next h e = absurd (cc)

-- a backslash is plain where it begins no escape
slash_plain : (delim : ℕ) (multi : Bool) (c : ℕ) → (c == 92) ≡ true → (c == delim) ≡ false → (delim == 34) ≡ false → is_plain delim multi c ≡ true
slash_plain delim multi c slash here other =
    let P : ℕ → Type 0 = λ b. (b == delim) ≡ false → is_plain delim multi b ≡ true in
    let at : (92 == delim) ≡ false → is_plain delim multi 92 ≡ true = λ h. rw (h, other) in
    subst P (sym (eqb-true c 92 slash)) at here

pub byte_piece : (d : Delimiter) (rest bytes next : Text) → (first rest == 92 && d.byte == 34) ≡ false → read_piece d rest ≡ Some (Some bytes, next)
    → (length bytes ≡ 1) × (next ≡ drop 1 rest)
byte_piece d rest bytes next h read = elim (cases_Bool (is_plain d.byte d.is_multi (first rest))) [
  | inl plain ↦
      let parts = some_pair_parts _ _ _ _ (sym (read_piece-plain d rest plain) ∙ read) in
      (ap length (sym (same_Some _ _ parts.0)), sym parts.1)
  | inr other ↦
      let none : (first rest == d.byte) ≡ false → (first rest == 92) ≡ true → ⊥ =
      λ here slash. true≢false (sym (slash_plain d.byte d.is_multi (first rest) slash here (rw slash at h)) ∙ other) in
      one_byte (is_here d rest) d.is_multi (has_three d rest) (has_few d rest) (first rest == 92) (has_newline d rest) d.byte (escape d.is_multi (drop 1 rest))
      rest bytes next none (sym (special-by_tests d rest) ∙ sym (read_piece-special d rest other) ∙ read)
]

mapped_some : (r : Read Text) (bytes next : Text) → option_map {U = Option Text × Text} (λ p. (Some p.0, p.1)) r ≡ Some (Some bytes, next) → r ≡ Some (bytes, next)
mapped_some None bytes next h = absurd (cc)
mapped_some (Some p) bytes next h =
    let parts = some_pair_parts _ _ _ _ h in
    ap (λ a. Some (a, p.1)) (same_Some _ _ parts.0) ∙ ap (λ b. Some (bytes, b)) parts.1

-- an escape, behind its backslash
escape_read : (multi : Bool) (cs bytes next : Text) → read_piece (record { byte = 34; is_multi = multi }) (92 ∷ cs) ≡ Some (Some bytes, next)
    → escape multi cs ≡ Some (bytes, next)
unfolding special
escape_read multi cs bytes next h = mapped_some (escape multi cs) bytes next h

pub escape_piece : (d : Delimiter) (rest bytes next : Text) → first rest ≡ 92 → d.byte ≡ 34 → read_piece d rest ≡ Some (Some bytes, next)
    → escape d.is_multi (drop 1 rest) ≡ Some (bytes, next)
escape_piece d [] bytes next slash quote h = absurd (omega arith)
escape_piece d (c ∷ cs) bytes next slash quote h =
    let P : ℕ → Type 0 = λ b. read_piece (record { byte = b; is_multi = d.is_multi }) (c ∷ cs) ≡ Some (Some bytes, next) in
    let Q : ℕ → Type 0 = λ b. read_piece (record { byte = 34; is_multi = d.is_multi }) (b ∷ cs) ≡ Some (Some bytes, next) in
    escape_read d.is_multi cs bytes next (subst Q slash (subst P quote h))

-- the escape of a line break stands for nothing
break_read : (test : Bool) (rest bytes next : Text) (other : Read Text) → test ≡ true → cond test (Some ([], rest)) other ≡ Some (bytes, next)
    → (bytes ≡ []) × (next ≡ rest)
break_read true rest bytes next other e h = let parts = some_pair_parts _ _ _ _ h in (sym parts.0, sym parts.1)
break_read false rest bytes next other e h = absurd (cc)

pub break_piece : (multi : Bool) (text bytes next : Text) → (multi && starts_newline (skip_ws text)) ≡ true → escape multi text ≡ Some (bytes, next)
    → (bytes ≡ []) × (next ≡ skip_from false false text)
unfolding escape
break_piece multi text bytes next test h = break_read (multi && starts_newline (skip_ws text)) _ bytes next _ test h

-- any other escape stands for a character
char_read : (test : Bool) (broken : Read Text) (r : Read ℕ) (bytes next : Text) → test ≡ false
    → cond test broken (option_map (λ p. (encode_utf8 p.0, p.1)) r) ≡ Some (bytes, next) → (c : ℕ) × (r ≡ Some (c, next)) × (bytes ≡ encode_utf8 c)
char_read true broken r bytes next e h = absurd (cc)
char_read false broken None bytes next e h = absurd (cc)
char_read false broken (Some p) bytes next e h =
    let parts = some_pair_parts _ _ _ _ h in
    (p.0, ap (λ a. Some (p.0, a)) parts.1, sym parts.0)

hex_next : (n : ℕ) (text : Text) (c : ℕ) (next : Text) → hex_escape n text ≡ Some (c, next) → next ≡ drop n text
unfolding hex_escape
hex_next n text c next h = sym (ap (λ (p : ℕ × Text). p.1) (cond_some _ _ _ h).1)

simple_next : (o : Option ℕ) (text : Text) (c : ℕ) (next : Text) → option_map {U = ℕ × Text} (λ x. (x, drop 1 text)) o ≡ Some (c, next) → next ≡ drop 1 text
simple_next None text c next h = absurd (cc)
simple_next (Some x) text c next h = sym (some_pair_parts _ _ _ _ h).1

char_next : (n : ℕ) (o : Option ℕ) (text : Text) (c : ℕ) (next : Text)
    → cond (ltb 0 n) (hex_escape n (drop 1 text)) (option_map {U = ℕ × Text} (λ x. (x, drop 1 text)) o) ≡ Some (c, next) → next ≡ drop (1 + n) text
char_next n o text c next h = elim (cases_Bool (ltb 0 n)) [
  | inl some ↦ hex_next n (drop 1 text) c next (rw some at h) ∙ drop-drop n 1 text
  | inr none ↦
      let zero_is : n ≡ 0 = omega (arith, ltb-false 0 n none) in
      rw zero_is (simple_next o text c next (rw none at h))
]

escape_char_next : (text : Text) (c : ℕ) (next : Text) → escape_char text ≡ Some (c, next) → next ≡ drop (1 + hex_len (first text)) text
unfolding escape_char
escape_char_next text c next h = char_next (hex_len (first text)) _ text c next h

pub char_piece : (multi : Bool) (text bytes next : Text) → (multi && starts_newline (skip_ws text)) ≡ false → escape multi text ≡ Some (bytes, next)
    → (c : ℕ) × (bytes ≡ encode_utf8 c) × (next ≡ drop (1 + hex_len (first text)) text)
unfolding escape
char_piece multi text bytes next test h =
    let (c, read, is) = char_read (multi && starts_newline (skip_ws text)) _ (escape_char text) bytes next test h in
    (c, is, escape_char_next text c next read)

-- the text goes on with this character, so that is what the escape stands for
pub char_length : (ahead bytes more rest : Text) (c d : ℕ) → bytes ≡ encode_utf8 c → ahead ≡ bytes ++ more → ahead ≡ encode_utf8 d ++ rest
    → length bytes ≡ length (encode_utf8 d)
char_length ahead bytes more rest c d is here there =
    ap length is ∙ ap (λ x. length (encode_utf8 x)) (encode_same c d more rest (sym (ap (λ b. b ++ more) is) ∙ sym here ∙ there)).0

-- what is left after blanks is an end of the text
pub skip_from-drops : (comments inside : Bool) (text : Text) → (k : ℕ) × (k ≤ length text) × (skip_from comments inside text ≡ drop k text)
unfolding skip_from
skip_from-drops comments inside [] = (0, omega arith, refl)
skip_from-drops comments inside (c ∷ cs) = elim (cases_Bool (is_some (skip_turn comments inside c (first cs)))) [
  | inl goes ↦
      let (k, within, is) = skip_from-drops comments (unwrap_or (skip_turn comments inside c (first cs)) false) cs in
      (suc k, omega arith, rw goes is)
  | inr stops ↦ (0, omega arith, rw stops refl)
]

pub drop_by_length : (file rest : Text) (j : ℕ) → j ≤ length file → rest ≡ drop j file → rest ≡ drop (length file - length rest) file
drop_by_length file rest j within is =
    let count : length rest ≡ length file - j = ap length is ∙ length-drop j file in
    let same : length file - length rest ≡ j = omega arith in
    rw same is

-- ---- how far the reading of a string has come

drop_past : (text bytes more : Text) (n m : ℕ) → drop n text ≡ bytes ++ more → m ≡ n + length bytes → drop m text ≡ more
drop_past text bytes more n m h e =
    ap (λ k. drop k text) e ∙ sym (drop-drop (length bytes) n text) ∙ ap (drop (length bytes)) h ∙ drop_at bytes more (length bytes) refl

-- The content of a string was read up to `at`, with these origins: what is left reads as the rest of the text, and its origins
-- complete those so far.
pub record HasCome (d : Delimiter) (file : Text) (start : ℕ) (text after : Text) (at : ℕ) (found : List Stretch) : Type 0 where
  pub left : (n : ℕ) × (body d.byte d.is_multi n (drop at file) ≡ Some (drop (length found) text, after))
  pub joins : (others : Text) (origins : List Stretch) (end : ℕ) → IsReadFrom d file after end at others origins
      → drop (length found) text ≡ others → IsReadFrom d file after end start text (found ++ origins)

pub come_start : (d : Delimiter) (file : Text) (start : ℕ) (text after : Text) (n : ℕ)
    → body d.byte d.is_multi n (drop start file) ≡ Some (text, after) → HasCome d file start text after start []
come_start d file start text after n read = record {
  left = (n, read);
  joins = λ others origins end are same.
      let P : Text → Type 0 = λ t. IsReadFrom d file after end start t origins in subst P (sym same) are;
}

pub come_done : (d : Delimiter) (file : Text) (start : ℕ) (text after : Text) (at : ℕ) (found : List Stretch)
    → HasCome d file start text after at found → is_end d (drop at file) ≡ true → IsReadFrom d file after at start text found
come_done d file start text after at found come last =
    let (n, read) = come.left in
    let (none, end) = end_reads d (drop at file) last in
    elim (body_step d n (drop at file) _ after read) [
      | inl done ↦
          let P : List Stretch → Type 0 = λ origins. IsReadFrom d file after at start text origins in
          subst P (append-nil found) (come.joins [] [] at (no_piece done.0) done.1)
      | inr goes ↦ absurd (not_end goes.bytes goes.next none _ goes.reads end)
    ]

pub come_more : (d : Delimiter) (file : Text) (start : ℕ) (text after : Text) (at : ℕ) (found : List Stretch) (piece : PieceEnd)
    → HasCome d file start text after at found → is_end d (drop at file) ≡ false
    → EndsPiece (ReadsPiece d (drop at file)) file at (drop (length found) text) piece
    → HasCome d file start text after piece.to (found ++ replicate piece.count (record { from = at; to = piece.to }))
come_more d file start text after at found piece come more ends =
    let (n, read) = come.left in
    elim (body_step d n (drop at file) _ after read) [
      | inl done ↦ absurd (end_not_read d (drop at file) after more done.0)
      | inr goes ↦
          let stretch : Stretch = record { from = at; to = piece.to } in
          let (counted, behind) = ends.is goes.bytes goes.next goes.more goes.reads goes.is in
          let size : length (found ++ replicate piece.count stretch) ≡ length found + length goes.bytes =
          omega (arith, length-append found (replicate piece.count stretch), length-replicate piece.count stretch, counted) in
          let rest : drop (length (found ++ replicate piece.count stretch)) text ≡ goes.more = drop_past text goes.bytes goes.more (length found) _ goes.is size in
          record {
            left = (goes.fuel, ap (body d.byte d.is_multi goes.fuel) (sym behind) ∙ goes.left ∙ ap (λ m. Some (m, after)) (sym rest));
            joins = λ others origins end are same.
                let P : List Stretch → Type 0 = λ os. IsReadFrom d file after end start text os in
                let reads : read_piece d (drop at file) ≡ Some (Some goes.bytes, drop piece.to file) = goes.reads ∙ ap (λ x. Some (Some goes.bytes, x)) behind in
                let whole = come.joins (goes.bytes ++ others) (replicate (length goes.bytes) stretch ++ origins) end (next_piece reads are)
                (goes.is ∙ ap (λ m. goes.bytes ++ m) (sym rest ∙ same)) in
                subst P (ap (λ k. found ++ (replicate k stretch ++ origins)) counted ∙ sym (append_assoc found _ _)) whole;
          }
    ]

-- what is behind a line break that an escape removes
pub break_rest : (file escape rest : Text) (j : ℕ) → j ≤ length file → escape ≡ drop j file → rest ≡ skip_from false false escape
    → rest ≡ drop (length file - length rest) file
break_rest file escape rest j within is skips =
    let (k, fits, drops) = skip_from-drops false false escape in
    let count : length escape ≡ length file - j = ap length is ∙ length-drop j file in
    drop_by_length file rest (j + k) (omega arith) (skips ∙ drops ∙ ap (drop k) is ∙ drop-drop k j file)

-- the reader of escapes, at an escape that a line break ends
pub ends_break : (file escape rest : Text) (at : ℕ) (multi : Bool) (ahead : Text) → at < length file → escape ≡ drop (at + 1) file
    → rest ≡ skip_from false false escape → length rest ≤ length escape → (multi && starts_newline (skip_ws escape)) ≡ true
    → EndsPiece (ReadsEscape multi (drop (at + 1) file)) file at ahead (record { to = length file - length rest; count = 0 })
ends_break file escape rest at multi ahead there is skips within test =
    let count : length escape ≡ length file - (at + 1) = ap length is ∙ length-drop (at + 1) file in
    record {
      on = omega arith;
      within = omega arith;
      is = λ bytes next more reads front.
          let P : Text → Type 0 = λ e. (multi && starts_newline (skip_ws e)) ≡ true in
          let (none, behind) = break_piece multi (drop (at + 1) file) bytes next (subst P is test) reads in
          (ap length none, behind ∙ ap (skip_from false false) (sym is) ∙ sym skips ∙ break_rest file escape rest (at + 1) (omega arith) is skips);
    }

-- and at one that stands for a character
pub ends_char : (file escape ahead rest : Text) (at size count c : ℕ) (multi : Bool) → at < length file → escape ≡ drop (at + 1) file
    → (multi && starts_newline (skip_ws escape)) ≡ false → size ≡ 1 + hex_len (first escape) → size ≤ length escape
    → ahead ≡ encode_utf8 c ++ rest → count ≡ length (encode_utf8 c)
    → EndsPiece (ReadsEscape multi (drop (at + 1) file)) file at ahead (record { to = at + 1 + size; count = count })
ends_char file escape ahead rest at size count c multi there is test sized within begins counted =
    let left : length escape ≡ length file - (at + 1) = ap length is ∙ length-drop (at + 1) file in
    record {
      on = omega arith;
      within = omega arith;
      is = λ bytes next more reads front.
          let P : Text → Type 0 = λ e. (multi && starts_newline (skip_ws e)) ≡ false in
          let (d, stands, behind) = char_piece multi (drop (at + 1) file) bytes next (subst P is test) reads in
          let same : 1 + hex_len (first (drop (at + 1) file)) ≡ size = ap (λ e. 1 + hex_len (first e)) (sym is) ∙ sym sized in (
            char_length ahead bytes more rest d c stands front begins ∙ sym counted,
            behind ∙ ap (λ n. drop n (drop (at + 1) file)) same ∙ drop-drop size (at + 1) file,
          );
    }

first-drop : (file : Text) (at : ℕ) → first (drop at file) ≡ get_or file at 0
first-drop file at = get_or-drop at file 0 0 ∙ ap (λ i. get_or file i 0) (add-zero at)

-- a piece that is an escape
pub ends_escape : (d : Delimiter) (file : Text) (at : ℕ) (ahead : Text) (found : PieceEnd) → get_or file at 0 ≡ 92 → d.byte ≡ 34
    → EndsPiece (ReadsEscape d.is_multi (drop (at + 1) file)) file at ahead found → EndsPiece (ReadsPiece d (drop at file)) file at ahead found
ends_escape d file at ahead found slash quote ends = record {
  on = ends.on;
  within = ends.within;
  is = λ bytes next more reads front.
      let P : Text → Type 0 = λ rest. escape d.is_multi rest ≡ Some (bytes, next) in
      ends.is bytes next more
      (subst P (drop-drop 1 at file) (escape_piece d (drop at file) bytes next (first-drop file at ∙ slash) quote reads)) front;
}

-- and any other piece
pub ends_byte : (d : Delimiter) (file : Text) (at : ℕ) (ahead : Text) → at < length file → (get_or file at 0 == 92 && d.byte == 34) ≡ false
    → EndsPiece (ReadsPiece d (drop at file)) file at ahead (record { to = at + 1; count = 1 })
ends_byte d file at ahead there other = record {
  on = omega arith;
  within = omega arith;
  is = λ bytes next more reads front.
      let P : ℕ → Type 0 = λ b. (b == 92 && d.byte == 34) ≡ false in
      let (counted, behind) = byte_piece d (drop at file) bytes next (subst P (sym (first-drop file at)) other) reads in
      (counted, behind ∙ drop-drop 1 at file);
}
