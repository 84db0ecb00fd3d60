use Rattle.std.proofs.{Common.◌*◌, Common.get_or, Common.ap, Common.◌∙◌, lemmas.Simd.get_or-chunk}
use Rattle.filterset_glob.proofs.lanes.bytes.load.Goals as goal
use Rattle.filterset_glob.proofs.lanes.bytes.load.Goals.{then-block-bytes, else-block-bytes}

pub returns : goal.returns
returns c k small within =
    elim c.if-block-bytes.branch [
      | then-block-bytes w ↦ ap (λ l. get_or l k 0) w.result-is ∙ get_or-chunk (64 * c.args.block) 64 c.args.bytes.now k 0 small
      | else-block-bytes w ↦ ap (λ l. get_or l k 0) w.result-is ∙ w.load_last.ensures k small within
    ]
