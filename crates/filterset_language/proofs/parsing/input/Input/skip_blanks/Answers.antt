use Rattle.std.proofs.Common.{ap, sym, ◌∙◌, arith}
use Rattle.filterset_language.specs.Parsing.{Front.blank_len, Position.skip}
use Rattle.filterset_language.proofs.Positions.{skip_step, skip_stop, blank_boundary, AtOrBehind-then}
use Rattle.filterset_language.proofs.parsing.input.Input.skip_blanks.Goals as goal

pub advance-input-requires-clause-within : goal.advance-input-requires-clause-within
advance-input-requires-clause-within c = c.args.self.skipped.boundary.0

pub advance-input-requires-clause-boundary : goal.advance-input-requires-clause-boundary
advance-input-requires-clause-boundary c = c.args.self.skipped.boundary

pub loop-input-init : goal.loop-input-init
loop-input-init c = record { same = ap skip c.advance-input.ensures.value ∙ c.args.self.skipped.same; behind = c.advance-input.ensures.behind }

pub advance-input-requires-in-loop-input-clause-boundary : goal.advance-input-requires-in-loop-input-clause-boundary
advance-input-requires-in-loop-input-clause-boundary c =
    let e = c.blank_len-count.ensures.value ∙ ap blank_len c.as_bytes.ensures.value in
    blank_boundary _ _ (rw c.as_bytes.ensures.value at c.as_bytes.ensures.utf8) e

pub loop-input-preserved : goal.loop-input-preserved
loop-input-preserved c =
    let e = c.blank_len-count.ensures.value ∙ ap blank_len c.as_bytes.ensures.value in
    let same = ap skip c.advance-input-in-loop-input.ensures.value ∙ sym (skip_step _ c.loop-input.input.offset c.loop-input.input.rest.now e (omega arith)) ∙ c.loop-input.invariant.same in
    record { same = same; behind = AtOrBehind-then _ _ _ c.loop-input.invariant.behind c.advance-input-in-loop-input.ensures.behind }

pub returns-then-count-eq0-clause-value : goal.returns-then-count-eq0-clause-value
returns-then-count-eq0-clause-value c =
    let e = c.blank_len-count.ensures.value ∙ ap blank_len c.as_bytes.ensures.value in
    sym (skip_stop c.loop-input.input.offset c.loop-input.input.rest.now (sym e ∙ c.if-count-eq0.true)) ∙ c.loop-input.invariant.same
