use Rattle.std.proofs.Common.{[], ◌∷◌}
use Rattle.filterset_texts.proofs.Sequences.{some_of_one}
use Rattle.filterset_texts.proofs.tokens.make_one.Goals as goal

pub returns-clause-matched : goal.returns-clause-matched
returns-clause-matched c = rw c.in_ok-vec.ensures.items (some_of_one c.in_ok-sequence.sequence (c.args.part ∷ []) c.in_ok-sequence.ensures.items)
