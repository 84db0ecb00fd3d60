use Rattle.filterset_display.proofs.PositionLemmas.{position-is}
use Rattle.filterset_display.proofs.lines.position_of.Goals as goal

pub returns : goal.returns
returns c = λ boundary.
    position-is c.args.encoding c.args.text.now c.args.starts.now c.line_of-line.result c.args.offset c.column.result c.between-front.result.now c.utf8.text c.requires
    c.line_of-line.ensures.within c.line_of-line.ensures.begins c.line_of-line.ensures.last
    (λ start. c.between-front.ensures start boundary c.line_of-line.ensures.begins) c.column.ensures
