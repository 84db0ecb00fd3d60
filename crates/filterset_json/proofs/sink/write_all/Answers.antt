use Rattle.std.proofs.{Common.◌++◌, Common.take, Common.◌∙◌, lemmas.List.take_rest}
use Rattle.filterset_json.proofs.BytesLemmas.{Appends-then, three_pieces, unmarked}
use Rattle.filterset_json.proofs.sink.write_all.Goals as goal

pub loop-rest-preserved : goal.loop-rest-preserved
loop-rest-preserved g c =
    let before = c.loop-rest.invariant.0 in
    let rest = c.loop-rest.rest.now in
    let n = c.in-Ok.count in
    let pieces = three_pieces _ _ rest n before.1 in (
      (before.0 ++ take n rest, rw (take_rest rest n) pieces, Appends-then _ _ _ _ _ before.2 c.in-Ok.ensures.bytes),
      unmarked _ _ _ n c.in-Ok.ensures.failed c.if-count-gt0.true ∙ c.loop-rest.invariant.1,
    )
