use Rattle.std.proofs.Common.{◌≡◌, ◌≤◌, ◌∷◌, ◌∙◌, [], None, length, length-append, sym, ap, subst, arith, IsUtf8}
use Rattle.filterset_faults.specs.declared.error.ParseSingleError.{ParseSingleError}
use Rattle.filterset_language.specs.Parsing.{Escapes.escape_at, Position.position_of, Position.after}
use Rattle.filterset_language.proofs.Positions.{AtOrBehind-then, AtOrBehind-of}
use Rattle.filterset_language.proofs.EscapeReading.{escape_within, escape_boundary}
use Rattle.filterset_language.proofs.RawTexts.{stops_there, text_ends}
use Rattle.filterset_language.proofs.{Recovering.reported, Recovering.keeps_along, RawTextFaults.unescaped_found}
use Rattle.filterset_language.proofs.parsing.raw_text.skip_raw_text.Goals.{in-Some-read_escape, in-None+in_ok-push-in-None}
use Rattle.filterset_language.proofs.parsing.raw_text.skip_raw_text.Goals as goal

pub loop-behind-init : goal.loop-behind-init
loop-behind-init c = record {
  stops = stops_there (position_of c.args.input) (position_of c.read_plain.result.1) c.read_plain.ensures.value;
  grows = omega arith;
  stand = λ old. old;
  behind = c.read_plain.ensures.behind;
}

pub advance-next-requires-clause-within : goal.advance-next-requires-clause-within
advance-next-requires-clause-within c = escape_within _ c.in-Some-read_escape.escape.character _ (sym (c.in-Some-read_escape.ensures ∙ ap escape_at c.as_bytes.ensures.value))

pub advance-next-requires-clause-boundary : goal.advance-next-requires-clause-boundary
advance-next-requires-clause-boundary c =
    escape_boundary _ c.in-Some-read_escape.escape.character _ (subst IsUtf8 c.as_bytes.ensures.value c.as_bytes.ensures.utf8) (sym (c.in-Some-read_escape.ensures ∙ ap escape_at c.as_bytes.ensures.value))

pub loop-behind-preserved : goal.loop-behind-preserved
loop-behind-preserved c =
    let inv = c.loop-behind.invariant in
    let past = AtOrBehind-then _ _ _ inv.behind (AtOrBehind-of _ _ (c.in-Some.ensures.behind (omega arith))) in
    let stops = stops_there (position_of c.match-read_escape.next) (position_of c.read_plain-in-Some.result.1) c.read_plain-in-Some.ensures.value in
    let onward = c.read_plain-in-Some.ensures.behind in
    elim c.match-read_escape.branch [
      | in-Some-read_escape w ↦
          rw w.faults-is record { stops = stops; grows = inv.grows; stand = inv.stand; behind = AtOrBehind-then _ _ _ past (AtOrBehind-then _ _ _ w.advance-next.ensures.behind (rw w.next-is at onward)) }
      | in-None+in_ok-push-in-None w ↦
          let none : None ≡ escape_at c.in-Some.behind.rest.now = w.in-None.ensures ∙ ap escape_at c.as_bytes.ensures.value in
          let found = reported _ _ _ _ w.in_ok-push-in-None.ensures.items (rw w.backslash.ensures (unescaped_found c.loop-behind.end c.in-Some.behind c.in-Some.ensures.value none)) in
          rw w.faults-is record {
            stops = stops;
            grows = let so_far = inv.grows in omega (arith, ap length w.in_ok-push-in-None.ensures.items, length-append {A = ParseSingleError});
            stand = λ old. keeps_along _ _ _ _ inv.behind.text found (inv.stand old);
            behind = AtOrBehind-then _ _ _ past (rw w.next-is at onward);
          }
    ]

pub returns-clause-end : goal.returns-clause-end
returns-clause-end c =
    let none : None ≡ after (92 ∷ []) (position_of c.loop-behind.end) = c.in_default.ensures.value in
    text_ends c.loop-behind.end.offset c.loop-behind.end.rest.now c.loop-behind.invariant.stops none
