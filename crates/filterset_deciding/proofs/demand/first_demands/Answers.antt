use Rattle.std.proofs.{Common.arith, Common.sym, lemmas.List.length-take-le}
use Rattle.filterset_deciding.proofs.Parts.{among_taken}
use Rattle.filterset_deciding.proofs.demand.first_demands.Goals as goal

pub slice_bounds-result-end : goal.slice_bounds-result-end
slice_bounds-result-end c = sym (length-take-le 100 c.args.demands.now (omega arith))

pub returns : goal.returns
returns c = λ demand among. among_taken 100 c.args.demands.now demand among
