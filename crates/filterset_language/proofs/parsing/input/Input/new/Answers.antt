use Rattle.std.proofs.{Common.refl, lemmas.Str.IsCharBoundary-start}
use Rattle.filterset_language.proofs.parsing.input.Input.new.Goals as goal

pub invariant_of-result-clause-skipped : goal.invariant_of-result-clause-skipped
invariant_of-result-clause-skipped c = record { boundary = IsCharBoundary-start c.args.text.now c.utf8.text; same = refl }
