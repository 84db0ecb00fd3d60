use Rattle.std.proofs.Common.{◌≡◌, drop, refl, sym, ap, ◌∙◌, subst}
use Rattle.std.specs.Prelude.{string_bytes}
use Rattle.filterset_language.specs.Parsing.{Front.close_len, Position.Position, Position.position_of, RawTexts.body_len}
use Rattle.filterset_language.specs.Faults.{ClosesArgument}
use Rattle.filterset_language.proofs.BodyReading.{body_boundary, body_read}
use Rattle.filterset_language.proofs.{ClosingParenthesis.close_behind, Recovering.reported, Recovering.keeps_along}
use Rattle.filterset_language.proofs.{Replacing.all_replaced, RawTextFaults.unclosed_found}
use Rattle.filterset_language.proofs.Matching.{regex_gives, regex_keeps}
use Rattle.filterset_language.proofs.parsing.matchers.read_regex.Goals as goal

pub advance-slash-requires-clause-boundary : goal.advance-slash-requires-clause-boundary
advance-slash-requires-clause-boundary c = body_boundary _ _ (c.body_len-count.ensures.value ∙ ap (body_len 0) c.as_bytes.ensures.value)

pub returns-in_default-clause-stand : goal.returns-in_default-clause-stand
returns-in_default-clause-stand c =
    let rest : c.advance_to_close-end.result.rest.now ≡ drop (close_len c.args.input.rest.now) c.args.input.rest.now = ap (λ (p : Position). p.rest) c.advance_to_close-end.ensures.value in
    let closes : ClosesArgument c.advance_to_close-end.result.rest.now = subst ClosesArgument (sym rest) (close_behind c.args.input.rest.now) in
    keeps_along _ _ _ _ c.advance_to_close-end.ensures.behind.text (reported _ _ _ _ c.in_ok-push.ensures.items (rw c.here.ensures (unclosed_found c.advance_to_close-end.result closes)))

pub returns-clause-value : goal.returns-clause-value
returns-clause-value c =
    let read = body_read c.args.input c.advance-slash.result c.in-Some.end _ _ _ _ (c.body_len-count.ensures.value ∙ ap (body_len 0) c.as_bytes.ensures.value) c.advance-slash.ensures.value c.in-Some.ensures.value c.range.ensures.value (all_replaced c.in_ok-pattern.ensures.ok.0 _ _ _ refl c.in_ok-pattern.ensures.ok.1) c.up_to.ensures in
    regex_gives c.args.input _ _ (string_bytes c.in_ok-pattern.pattern) _ (position_of c.in-Some.end) _ read c.in_ok-value.ensures

pub returns-clause-stand : goal.returns-clause-stand
returns-clause-stand c =
    let read = body_read c.args.input c.advance-slash.result c.in-Some.end _ _ _ _ (c.body_len-count.ensures.value ∙ ap (body_len 0) c.as_bytes.ensures.value) c.advance-slash.ensures.value c.in-Some.ensures.value c.range.ensures.value (all_replaced c.in_ok-pattern.ensures.ok.0 _ _ _ refl c.in_ok-pattern.ensures.ok.1) c.up_to.ensures in
    regex_keeps c.args.input _ _ (string_bytes c.in_ok-pattern.pattern) _ (position_of c.in-Some.end) _ c.requires read c.in_ok-value.ensures
