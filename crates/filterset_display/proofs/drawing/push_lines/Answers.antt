use Rattle.std.proofs.{Common.ap, Common.◌++◌, Common.◌∙◌, Common.map, Common.string_bytes, lemmas.List.take_all}
use Rattle.filterset_display.specs.{Drawings.marked_lines, Cutting.line_row}
use Rattle.filterset_display.proofs.drawing.push_lines.Goals as goal

pub returns : goal.returns
returns c =
    let from = c.args.stretch.from in
    let to = c.args.stretch.to in
    c.loop-line.invariant ∙ ap (λ lines. string_bytes c.args.drawing.now ++ marked_lines c.args.margin from to (map line_row lines)) (take_all c.loop-line.line-index c.args.lines.now c.loop-line-test.false)
