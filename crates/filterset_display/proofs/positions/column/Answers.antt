use Rattle.std.specs.Str.Iter.{chars_rest}
use Rattle.filterset_display.proofs.PositionLemmas.{counted-end, counted-step}
use Rattle.filterset_display.proofs.positions.column.Goals as goal

pub loop-character-preserved : goal.loop-character-preserved
loop-character-preserved c =
    counted-step c.args.encoding _ _ c.loop-character.column c.units-column.result c.in-Some.character (chars_rest c.loop-character.character-iterator)
    (chars_rest c.next.new.self) c.in-Some.ensures.steps.0 c.units-column.ensures.value c.units-column.ensures.bound c.loop-character.invariant

pub returns : goal.returns
returns c =
    counted-end c.args.encoding _ _ c.loop-character.column (chars_rest c.loop-character.character-iterator) c.in-None.ensures.steps.0.0 c.loop-character.invariant
