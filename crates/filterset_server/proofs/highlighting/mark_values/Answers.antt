use Rattle.std.proofs.Common.{arith, ◌<◌, ◌≤◌, ◌∙◌, ◌++◌, List, ap, length, map, sym}
use Rattle.std.proofs.lemmas.List.{append-nil, drop_all}
use Rattle.serde_json.specs.{Data.Data, View.view}
use Rattle.filterset_server.specs.{Highlights.marks_data, declared.highlighting.Mark.Mark}
use Rattle.filterset_server.proofs.MarkLemmas.{marks_more}
use Rattle.filterset_server.proofs.highlighting.mark_values.Goals as goal

pub returns : goal.returns
returns c =
    let marks = c.args.marks.now in
    let made : List Data = map view c.loop-mark.values.items in
    let left : List Mark → List Data = λ ms. made ++ marks_data c.loop-mark.last ms in
    let ended : length marks ≤ c.loop-mark.mark-index = omega (arith, c.loop-mark-test.false) in
    sym (c.loop-mark.invariant ∙ ap left (drop_all c.loop-mark.mark-index marks ended) ∙ append-nil made)

pub loop-mark-preserved : goal.loop-mark-preserved
loop-mark-preserved c =
    let marks = c.args.marks.now in
    let i = c.loop-mark.mark-index in
    let lt : i < length marks = omega (arith, c.loop-mark-test.true) in
    marks_more marks i _ _ _ _ c.loop-mark.last lt c.loop-mark.invariant c.in_ok-push_mark.ensures
