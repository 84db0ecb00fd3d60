use Rattle.std.proofs.{Common.get_or, Common.ap, Common.zero-add, Common.◌∙◌, lemmas.Simd.get_or-chunk}
use Rattle.filterset_glob.proofs.lanes.numbers.load.Goals as goal

pub returns-then-count-ge64 : goal.returns-then-count-ge64
returns-then-count-ge64 c k small within = get_or-chunk 0 64 c.args.numbers.now k 0 small ∙ ap (λ j. get_or c.args.numbers.now j 0) (zero-add k)
