use Rattle.std.proofs.Common.{rules}
use Rattle.filterset_language.proofs.Positions.{seam_on}
use Rattle.filterset_language.proofs.parsing.input.Input.advance.Goals as goal

pub invariant_of-result-clause-seam : goal.invariant_of-result-clause-seam
invariant_of-result-clause-seam c = seam_on c.args.self c.args.count _ c.requires.within (search rules) c.range_from.utf8
