use Rattle.std.proofs.Common.{inl, inr, sym, ◌∙◌}
use Rattle.std.specs.Str.Iter.{chars_rest}
use Rattle.filterset_display.proofs.PositionLemmas.{walked-end, walked-step, walked-stop}
use Rattle.filterset_display.proofs.positions.bytes_before.Goals as goal
use Rattle.filterset_display.proofs.positions.bytes_before.Goals.{then-is_break-via-then-is_break, then-is_break-via-else-is_break+then-left-units}

pub returns-then-is_break-clause-value : goal.returns-then-is_break-clause-value
returns-then-is_break-clause-value c =
    walked-stop c.args.encoding _ _ c.loop-character.bytes c.loop-character.left c.units-units.result c.in-Some.character (chars_rest c.loop-character.character-iterator)
    (chars_rest c.next.new.self) c.in-Some.ensures.steps.0 c.units-units.ensures.value
    (elim c.then-is_break.branch [
      | then-is_break-via-then-is_break w ↦ inl (sym c.is_break.ensures ∙ w.if-is_break.true)
      | then-is_break-via-else-is_break+then-left-units w ↦ inr w.if-left-units.true
    ])
    c.loop-character.invariant

pub loop-character-preserved : goal.loop-character-preserved
loop-character-preserved c =
    walked-step c.args.encoding _ _ c.loop-character.bytes c.loop-character.left c.units-units.result c.len_utf8-bytes.result c.in-Some.character
    (chars_rest c.loop-character.character-iterator) (chars_rest c.next.new.self) c.in-Some.ensures.steps.0 c.units-units.ensures.value
    c.len_utf8-bytes.ensures.value (sym c.is_break.ensures ∙ c.if-is_break.false) c.if-left-units.false c.loop-character.invariant

pub returns-clause-value : goal.returns-clause-value
returns-clause-value c =
    walked-end c.args.encoding _ _ c.loop-character.bytes c.loop-character.left (chars_rest c.loop-character.character-iterator) c.in-None.ensures.steps.0.0 c.loop-character.invariant
