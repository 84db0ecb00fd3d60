-- The argument of `platform`: blanks, which belong to the raw text, and what is read after them.
use Rattle.std.proofs.Common.{◌≡◌, ℕ, ◌+◌, ◌-◌, ◌<◌, Bool, true, false, cond, eqb, List, [], ◌∷◌, ◌++◌, length, take, drop, IsUtf8, Some, refl, sym, ap, ◌∙◌, subst, arith, append_assoc, length-append}
use Rattle.std.specs.Prelude.{All, encode_utf8_all, ◌&&◌, ◌||◌}
use Rattle.std.specs.Str.{trim, trim_start, trim_end}
use Rattle.std.proofs.lemmas.List.{take_at, Elements.All-cons, Elements.All-nil, Elements.All-append}
use Rattle.std.proofs.lemmas.Str.{encode_ascii, encodes-append, IsUtf8-past_char}
use lib.Utf8.{encode}
use Rattle.filterset_faults.specs.{Span.span, declared.error.ParseSingleError.TheVariants.InvalidPlatformArgument}
use Rattle.filterset_graph.specs.Platforms.{platform_text}
use Rattle.filterset_graph.specs.declared.package.BuildPlatform.{BuildPlatform, TheVariants.Target, TheVariants.Host}
use Rattle.filterset_language.specs.Parsing.Front.{blank_len}
use Rattle.filterset_language.specs.Parsing.Position.{Position, position, position_of, skip}
use Rattle.filterset_language.specs.Parsing.{RawTexts.raw_at, RawTexts.SpelledTo, PlatformNames.platform_in}
use Rattle.filterset_language.specs.Faults.{EndsText, comma, closed, at_end, at_close}
use Rattle.filterset_language.specs.{Parsing.Recovery.Found, declared.parsing.input.Input.Input}
use Rattle.filterset_language.proofs.{Positions.skip_again, ClosingParenthesis.ends_stop}
use Rattle.filterset_language.proofs.StepsTakeText.{Takes, blank_front, return_front}
use Rattle.filterset_language.proofs.RawTexts.{text_again, spelled_none}
use Rattle.filterset_language.proofs.RawTextFaults.{piece_is, piece_found}
use Rattle.filterset_language.proofs.WhiteSpaceTest.{IsWhite, white_skipped, white_scalars}
use Rattle.filterset_language.proofs.Trimming.{start_trimmed, scalars_append, names_utf8, names_trimmed, trimmed_names, platform_again}
use Rattle.filterset_grammar.specs.Text.{Blanks, no_blank, space, newline, return_newline, is_plain, Spelled, nothing, plain, escaped, WhiteSpace}
use Rattle.filterset_grammar.specs.Platforms.{Names}

-- ---- blanks before a raw text

pub blanks_spelled : {b : List ℕ} → Blanks b → (raw value : List ℕ) → Spelled raw value → Spelled (b ++ raw) (b ++ value)
blanks_spelled no_blank raw value x = x
blanks_spelled (space {t} r) raw value x = plain refl (blanks_spelled r raw value x)
blanks_spelled (newline {t} r) raw value x = plain refl (blanks_spelled r raw value x)
blanks_spelled (return_newline {t} r) raw value x = plain refl (plain refl (blanks_spelled r raw value x))

-- a raw text after one that stands for itself
record Behind (front raw value : List ℕ) : Type 0 where
  rest : List ℕ
  parts : value ≡ front ++ rest
  spelled : Spelled raw rest

byte_off : {t value : List ℕ} (b : ℕ) (raw : List ℕ) → Spelled t value → t ≡ b ∷ raw → is_plain b ≡ true → Behind (b ∷ []) raw value
byte_off b raw nothing e h = absurd cc
byte_off c raw (plain {b} {raw = other} {value} is x) e h =
    let same : b ≡ c = cc in
    let tail : other ≡ raw = cc in
    record { rest = value; parts = ap (λ (y : ℕ). y ∷ value) same; spelled = subst (λ (y : List ℕ). Spelled y value) tail x }
byte_off b raw (escaped {more} own is x same) e h =
    let f : 92 ≡ b = cc in
    let g : is_plain 92 ≡ true = subst (λ (y : ℕ). is_plain y ≡ true) (sym f) h in
    absurd (let no : false ≡ true = g in cc)

both_off : (b : ℕ) (t raw value : List ℕ) (one : Behind (b ∷ []) (t ++ raw) value) → Behind t raw one.rest → Behind (b ∷ t) raw value
both_off b t raw value one on = record { rest = on.rest; parts = one.parts ∙ ap (λ (y : List ℕ). b ∷ y) on.parts; spelled = on.spelled }

blanks_off : {b : List ℕ} → Blanks b → (raw value : List ℕ) → Spelled (b ++ raw) value → Behind b raw value
blanks_off no_blank raw value x = record { rest = value; parts = refl; spelled = x }
blanks_off (space {t} r) raw value x =
    let one = byte_off 32 (t ++ raw) x refl refl in
    both_off 32 t raw value one (blanks_off r raw one.rest one.spelled)
blanks_off (newline {t} r) raw value x =
    let one = byte_off 10 (t ++ raw) x refl refl in
    both_off 10 t raw value one (blanks_off r raw one.rest one.spelled)
blanks_off (return_newline {t} r) raw value x =
    let one = byte_off 13 (10 ∷ (t ++ raw)) x refl refl in
    let two = byte_off 10 (t ++ raw) one.spelled refl refl in
    both_off 13 (10 ∷ t) raw value one (both_off 10 t raw one.rest two (blanks_off r raw two.rest two.spelled))

-- ---- blanks are white space

blanks_white : {b : List ℕ} → Blanks b → All IsWhite b
blanks_white no_blank = All-nil IsWhite
blanks_white (space {t} r) = All-cons IsWhite 32 t (refl, refl) (blanks_white r)
blanks_white (newline {t} r) = All-cons IsWhite 10 t (refl, refl) (blanks_white r)
blanks_white (return_newline {t} r) = All-cons IsWhite 13 (10 ∷ t) (refl, refl) (All-cons IsWhite 10 t (refl, refl) (blanks_white r))

one_byte : (b : ℕ) → b < 128 → encode b ≡ b ∷ []
one_byte b lt = encode_ascii b lt

blanks_encoded : {b : List ℕ} → Blanks b → encode_utf8_all b ≡ b
blanks_encoded no_blank = refl
blanks_encoded (space {t} r) = ap (λ (y : List ℕ). y ++ encode_utf8_all t) (one_byte 32 (omega arith)) ∙ ap (λ (y : List ℕ). 32 ∷ y) (blanks_encoded r)
blanks_encoded (newline {t} r) = ap (λ (y : List ℕ). y ++ encode_utf8_all t) (one_byte 10 (omega arith)) ∙ ap (λ (y : List ℕ). 10 ∷ y) (blanks_encoded r)
blanks_encoded (return_newline {t} r) =
    ap (λ (y : List ℕ). y ++ encode_utf8_all (10 ∷ t)) (one_byte 13 (omega arith))
    ∙ ap (λ (y : List ℕ). 13 ∷ (y ++ encode_utf8_all t)) (one_byte 10 (omega arith)) ∙ ap (λ (y : List ℕ). 13 ∷ 10 ∷ y) (blanks_encoded r)

byte_past : (b : ℕ) (t : List ℕ) → b < 128 → IsUtf8 (b ∷ t) → IsUtf8 t
byte_past b t lt u = IsUtf8-past_char (b ∷ t) t b u (ap (λ (y : List ℕ). y ++ t) (sym (one_byte b lt)))

blanks_past : {b : List ℕ} → Blanks b → (rest : List ℕ) → IsUtf8 (b ++ rest) → IsUtf8 rest
blanks_past no_blank rest u = u
blanks_past (space {t} r) rest u = blanks_past r rest (byte_past 32 (t ++ rest) (omega arith) u)
blanks_past (newline {t} r) rest u = blanks_past r rest (byte_past 10 (t ++ rest) (omega arith) u)
blanks_past (return_newline {t} r) rest u = blanks_past r rest (byte_past 10 (t ++ rest) (omega arith) (byte_past 13 (10 ∷ (t ++ rest)) (omega arith) u))

blanks_trimmed : {b : List ℕ} → Blanks b → (v : List ℕ) → IsUtf8 v → trim (b ++ v) ≡ trim v
blanks_trimmed {b} r v u =
    let cs = u.0 in
    let whole : b ++ v ≡ encode_utf8_all (b ++ cs) = ap (λ (y : List ℕ). b ++ y) (sym u.1.1) ∙ ap (λ (y : List ℕ). y ++ encode_utf8_all cs) (sym (blanks_encoded r)) ∙ sym (encodes-append b cs) in
    let are = scalars_append b cs (white_scalars b (blanks_white r)) u.1.0 in
    let started : trim_start (b ++ v) ≡ trim_start v =
    ap trim_start whole ∙ start_trimmed (b ++ cs) are ∙ ap encode_utf8_all (white_skipped b cs (blanks_white r)) ∙ sym (start_trimmed cs u.1.0) ∙ ap trim_start u.1.1
    in
    ap trim_end started

-- a value names a platform just where it does after blanks
pub names_behind : {b : List ℕ} → Blanks b → (v : List ℕ) (p : BuildPlatform) → Names (b ++ v) p → Names v p
names_behind {b} r v p names =
    let u = blanks_past r v (names_utf8 p (b ++ v) names) in
    trimmed_names p v u (sym (blanks_trimmed r v u) ∙ names_trimmed p (b ++ v) names)

pub names_before : {b : List ℕ} → Blanks b → (v : List ℕ) (p : BuildPlatform) → Names v p → Names (b ++ v) p
names_before {b} r v p names =
    let cs = names.white_before.0 in
    let white : WhiteSpace (b ++ names.before) = (b ++ cs, (ap (λ (y : List ℕ). b ++ y) names.white_before.1 ∙ ap (λ (y : List ℕ). y ++ encode_utf8_all cs) (sym (blanks_encoded r)) ∙ sym (encodes-append b cs)), All-append IsWhite b cs (blanks_white r) names.white_before.2) in
    record {
      before = b ++ names.before;
      behind = names.behind;
      white_before = white;
      white_behind = names.white_behind;
      parts = ap (λ (y : List ℕ). b ++ y) names.parts ∙ sym (append_assoc b names.before (platform_text p ++ names.behind));
    }

-- ---- the blanks at the front of a raw text

record BlankFront (raw u : List ℕ) : Type 0 where
  blanks : List ℕ
  are : Blanks blanks
  rest : List ℕ
  parts : raw ≡ blanks ++ rest
  stop : blank_len (rest ++ u) ≡ 0

one_stop : (b : ℕ) {u : List ℕ} → EndsText u → (eqb b 32 || eqb b 10) ≡ false → blank_len (b ∷ u) ≡ 0
one_stop b (comma {t}) e = rw e (none (eqb b 13))
  where
    none : (v : Bool) → ◌≡◌ {A = ℕ} (cond (v && false) 2 0) 0
    none true = refl
    none false = refl
one_stop b (closed at_end) e = rw e refl
one_stop b (closed (at_close {t})) e = rw e (none (eqb b 13))
  where
    none : (v : Bool) → ◌≡◌ {A = ℕ} (cond (v && false) 2 0) 0
    none true = refl
    none false = refl

here : (raw u : List ℕ) → blank_len (raw ++ u) ≡ 0 → BlankFront raw u
here raw u stop = record { blanks = []; are = no_blank; rest = raw; parts = refl; stop = stop }

front_of : (raw : List ℕ) {u : List ℕ} → EndsText u → BlankFront raw u
front_of [] {u} ends = here [] u (ends_stop u ends)
front_of (b ∷ []) {u} ends = from (eqb b 32 || eqb b 10) refl
  where
    from : (v : Bool) → (eqb b 32 || eqb b 10) ≡ v → BlankFront (b ∷ []) u
    from true e = record { blanks = b ∷ []; are = blank_front b [] e no_blank; rest = []; parts = refl; stop = ends_stop u ends }
    from false e = here (b ∷ []) u (one_stop b ends e)
front_of (b ∷ c ∷ t) {u} ends = from (eqb b 32 || eqb b 10) (eqb b 13 && eqb c 10) refl refl (front_of (c ∷ t) ends) (front_of t ends)
  where
    from : (v w : Bool) → (eqb b 32 || eqb b 10) ≡ v → (eqb b 13 && eqb c 10) ≡ w → BlankFront (c ∷ t) u → BlankFront t u → BlankFront (b ∷ c ∷ t) u
    from true w e f one two = record { blanks = b ∷ one.blanks; are = blank_front b one.blanks e one.are; rest = one.rest; parts = ap (λ (y : List ℕ). b ∷ y) one.parts; stop = one.stop }
    from false true e f one two = record { blanks = b ∷ c ∷ two.blanks; are = return_front b c two.blanks f two.are; rest = two.rest; parts = ap (λ (y : List ℕ). b ∷ c ∷ y) two.parts; stop = two.stop }
    from false false e f one two = here (b ∷ c ∷ t) u (rw (e, f) refl)

-- ---- what is spelled is read, and what is read is spelled

name_some : (p : BuildPlatform) → 0 < length (platform_text p)
name_some Target = omega arith
name_some Host = omega arith

names_some : (v : List ℕ) (p : BuildPlatform) → Names v p → 0 < length v
names_some v p names = omega (arith, ap length names.parts, length-append names.before (platform_text p ++ names.behind), length-append (platform_text p) names.behind, name_some p)

pub argument_again : (p : BuildPlatform) (at : ℕ) (raw value u : List ℕ) → Spelled raw value → Names value p → EndsText u
    → (v : List ℕ) × (raw_at (skip (position at (raw ++ u))) ≡ Some (v, position (at + length raw) u)) × (platform_in v ≡ Some p)
argument_again p at raw value u x names ends =
    let f = front_of raw ends in
    let o = blanks_off f.are f.rest value (subst (λ (y : List ℕ). Spelled y value) f.parts x) in
    let own = names_behind f.are o.rest p (subst (λ (y : List ℕ). Names y p) o.parts names) in
    let some = spelled_none o.spelled (names_some o.rest p own) in
    let whole : raw ++ u ≡ f.blanks ++ (f.rest ++ u) = ap (λ (y : List ℕ). y ++ u) f.parts ∙ append_assoc f.blanks f.rest u in
    let skipped : skip (position at (raw ++ u)) ≡ position (at + length f.blanks) (f.rest ++ u) = ap (λ (y : List ℕ). skip (position at y)) whole ∙ skip_again f.are at (f.rest ++ u) f.stop in
    let read = text_again (at + length f.blanks) f.rest o.rest u o.spelled (λ e. absurd (omega (arith, ap length e, some))) ends in
    let end : at + length f.blanks + length f.rest ≡ at + length raw = let e = ap length f.parts in omega (arith, e, length-append f.blanks f.rest) in
    (o.rest, ap raw_at skipped ∙ read ∙ ap (λ (k : ℕ). Some (o.rest, position k u)) end, platform_again p o.rest own)

-- blanks, and a raw text after them
pub with_blanks : {b : List ℕ} (p q r : Position) (v : List ℕ) → Blanks b → Takes p b q → SpelledTo q v r → SpelledTo p (b ++ v) r
with_blanks {b} p q r v are takes s = record {
  raw = b ++ s.raw;
  spelled = blanks_spelled are s.raw v s.spelled;
  parts = takes.parts ∙ ap (λ (y : List ℕ). b ++ y) s.parts ∙ sym (append_assoc b s.raw r.rest);
  offset = omega (arith, takes.offset, s.offset, length-append b s.raw);
}

-- ---- faults of a whole raw text

pub spelled_takes : {p q : Position} {v : List ℕ} (s : SpelledTo p v q) → Takes p s.raw q
spelled_takes s = record { parts = s.parts; offset = s.offset }

pub piece_spelled : (a b : Input) (v : List ℕ) → SpelledTo (position_of a) v (position_of b) → Spelled (take (b.offset - a.offset) (drop a.offset a.text.now)) v
piece_spelled a b v s = subst (λ (y : List ℕ). Spelled y v) (sym (piece_is a b s.raw (spelled_takes s))) s.spelled

-- an argument that names no platform, from after its parenthesis on
pub platform_refused : {blanks : List ℕ} (i b : Input) (v : List ℕ) → Blanks blanks → SpelledTo (position_of i) (blanks ++ v) (position_of b) → ((p : BuildPlatform) → Names v p → ⊥)
    → Found i.text.now (InvalidPlatformArgument (span i.offset (b.offset - i.offset)))
platform_refused {blanks} i b v are s none =
    piece_found i b s.raw (InvalidPlatformArgument (span i.offset (b.offset - i.offset))) refl refl (spelled_takes s) (λ h. h)
    (blanks ++ v, piece_spelled i b (blanks ++ v) s, λ p names. none p (names_behind are v p names))
