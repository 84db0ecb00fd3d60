use Rattle.std.proofs.Common.{◌≡◌, ◌≢◌, ◌∙◌, ◌∷◌, [], ◌++◌, ◌<◌, ℕ, List, None, length, refl, sym, ap, subst, arith, IsUtf8, ⊎_elim}
use Rattle.std.specs.{Prelude.encode_utf8, String.string_bytes}
use Rattle.std.proofs.lemmas.Bool.{cases_lt}
use Rattle.filterset_language.specs.Parsing.Position.{Position, position_of, after}
use Rattle.filterset_language.specs.Parsing.{Escapes.escape_at, RawTexts.SpelledTo}
use Rattle.filterset_language.proofs.EscapeReading.{escape_within, escape_boundary}
use Rattle.filterset_language.proofs.Positions.{AtOrBehind-then, AtOrBehind-of}
use Rattle.filterset_language.proofs.RawTexts.{text_start, stops_there, text_turns, text_ends, spelled_is_read, empty_is_unread, unescaped_is_unread, spelled_some, spelled_none}
use Rattle.filterset_language.proofs.Recovering.{refused_along, recovers_along, reported, keeps_along, keeps_then, keeps_from}
use Rattle.filterset_language.proofs.RawTextFaults.{unescaped_found, empty_found}
use Rattle.filterset_language.proofs.parsing.raw_text.read_raw_text.Goals.{then-end-input+in_ok-push-3, else-end-input}
use Rattle.filterset_language.proofs.parsing.raw_text.read_raw_text.Goals as goal

pub loop-behind-init : goal.loop-behind-init
loop-behind-init c = record {
  spelled = text_start (position_of c.args.input) (position_of c.read_plain.result.1) (string_bytes c.in_ok-value.value) (c.in_ok-value.ensures.ok ∙ c.read_plain.ensures.text) c.read_plain.ensures.value;
  same = refl;
  stops = stops_there (position_of c.args.input) (position_of c.read_plain.result.1) c.read_plain.ensures.value;
  behind = c.read_plain.ensures.behind;
}

pub advance-requires-clause-within : goal.advance-requires-clause-within
advance-requires-clause-within c =
    escape_within _ c.in-Some-read_escape.escape.character _ (sym (c.in-Some-read_escape.ensures ∙ ap escape_at c.as_bytes.ensures.value))

pub advance-requires-clause-boundary : goal.advance-requires-clause-boundary
advance-requires-clause-boundary c =
    escape_boundary _ c.in-Some-read_escape.escape.character _ (subst IsUtf8 c.as_bytes.ensures.value c.as_bytes.ensures.utf8) (sym (c.in-Some-read_escape.ensures ∙ ap escape_at c.as_bytes.ensures.value))

pub loop-behind-preserved : goal.loop-behind-preserved
loop-behind-preserved c =
    let inv = c.loop-behind.invariant in
    let read = c.in-Some-read_escape.ensures ∙ ap escape_at c.as_bytes.ensures.value in
    let run = c.read_plain-in-Some.result.0.now in
    let turned =
    text_turns (position_of c.args.input) (position_of c.loop-behind.end) (position_of c.in-Some.behind) (position_of c.advance.result) (position_of c.read_plain-in-Some.result.1)
    (string_bytes c.loop-behind.value) run c.in-Some-read_escape.escape.character c.in-Some-read_escape.escape.len
    inv.spelled c.in-Some.ensures.value read c.advance.ensures.value c.read_plain-in-Some.ensures.text c.read_plain-in-Some.ensures.value
    in
    let bytes : string_bytes c.push_str.new.self ≡ (string_bytes c.loop-behind.value ++ encode_utf8 c.in-Some-read_escape.escape.character) ++ run =
    c.in_ok-push_str.ensures.bytes ∙ ap (λ (t : List ℕ). t ++ run) c.in_ok-push-2.ensures.bytes
    in
    let past = AtOrBehind-of _ _ (c.in-Some.ensures.behind (omega arith)) in
    record {
      spelled = subst (λ (t : List ℕ). SpelledTo (position_of c.args.input) t (position_of c.read_plain-in-Some.result.1)) (sym bytes) turned;
      same = inv.same;
      stops = stops_there (position_of c.advance.result) (position_of c.read_plain-in-Some.result.1) c.read_plain-in-Some.ensures.value;
      behind = AtOrBehind-then _ _ _ inv.behind (AtOrBehind-then _ _ _ past (AtOrBehind-then _ _ _ c.advance.ensures.behind c.read_plain-in-Some.ensures.behind));
    }

pub returns-in_default-read_escape-clause-value : goal.returns-in_default-read_escape-clause-value
returns-in_default-read_escape-clause-value c =
    let none : None ≡ escape_at c.in-Some.behind.rest.now = c.in_default-read_escape.ensures ∙ ap escape_at c.as_bytes.ensures.value in
    refused_along _ _ _ _ _ _ _ c.loop-behind.invariant.same c.in_ok-push.ensures.items c.in_ok-end.ensures.grows
    (unescaped_is_unread (position_of c.args.input) (position_of c.loop-behind.end) (position_of c.in-Some.behind) (string_bytes c.loop-behind.value) c.loop-behind.invariant.spelled c.in-Some.ensures.value none)

pub returns-in_default-read_escape-clause-stand : goal.returns-in_default-read_escape-clause-stand
returns-in_default-read_escape-clause-stand c =
    let none : None ≡ escape_at c.in-Some.behind.rest.now = c.in_default-read_escape.ensures ∙ ap escape_at c.as_bytes.ensures.value in
    let inv = c.loop-behind.invariant in
    let first = reported _ _ _ _ c.in_ok-push.ensures.items (rw c.backslash.ensures (unescaped_found c.loop-behind.end c.in-Some.behind c.in-Some.ensures.value none)) in
    keeps_from _ _ _ _ inv.same
    (keeps_then _ _ _ _ _ _ inv.behind.text ((c.in-Some.ensures.behind (omega arith)).text ∙ inv.behind.text) first c.in_ok-end.ensures.stand)

-- nothing was read just where nothing was spelled
empty : (p q : Position) (v : List ℕ) → SpelledTo p v q → q.at ≡ p.at → length v ≡ 0
empty p q v s same =
    ⊎_elim
    (λ some. absurd (let raw = spelled_none s.spelled some in let at = s.offset in omega arith))
    (λ none. omega arith)
    (cases_lt 0 (length v))

some : (p q : Position) (v : List ℕ) → SpelledTo p v q → q.at ≢ p.at → 0 < length v
some p q v s differ =
    let at = s.offset in
    spelled_some s.spelled (omega arith)

pub returns-clause-value : goal.returns-clause-value
returns-clause-value c =
    let inv = c.loop-behind.invariant in
    let none : None ≡ after (92 ∷ []) (position_of c.loop-behind.end) = c.in_default.ensures.value in
    let ends = text_ends c.loop-behind.end.offset c.loop-behind.end.rest.now inv.stops none in
    let p = position_of c.args.input in
    let q = position_of c.loop-behind.end in
    let v = string_bytes c.loop-behind.value in
    elim c.if-end-input.branch [
      | then-end-input+in_ok-push-3 w ↦ rw w.faults-is (refused_along _ _ _ _ _ _ _ inv.same w.in_ok-push-3.ensures.items (omega arith) (empty_is_unread p q v inv.spelled (empty p q v inv.spelled (omega arith)) ends))
      | else-end-input w ↦ rw w.faults-is (recovers_along _ _ _ _ inv.same (spelled_is_read p q v inv.spelled (some p q v inv.spelled (omega arith)) ends))
    ]

pub returns-clause-stand : goal.returns-clause-stand
returns-clause-stand c =
    let inv = c.loop-behind.invariant in
    let none : None ≡ after (92 ∷ []) (position_of c.loop-behind.end) = c.in_default.ensures.value in
    let ends = text_ends c.loop-behind.end.offset c.loop-behind.end.rest.now inv.stops none in
    elim c.if-end-input.branch [
      | then-end-input+in_ok-push-3 w ↦ rw w.faults-is (keeps_from _ _ _ _ inv.same (keeps_along _ _ _ _ inv.behind.text (reported _ _ _ _ w.in_ok-push-3.ensures.items (rw w.here.ensures (empty_found c.loop-behind.end ends)))))
      | else-end-input w ↦ rw w.faults-is (keeps_from _ _ _ _ inv.same (λ old. old))
    ]
