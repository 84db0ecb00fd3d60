use Rattle.std.proofs.Common.{ℕ, List, drop}
use Rattle.filterset_glob.specs.{Matching.Matches, Tokens.tokens_of}
use Rattle.filterset_deciding.proofs.literals.begin_apart.Given as goal

-- the tokens so far take the same of a text that both match
abbrev pub invariant-loop-at : goal.invariant-loop-at
invariant-loop-at l =
    (text : List ℕ) → Matches (tokens_of l.tokens) text → Matches (tokens_of l.others) text
    → (rest : List ℕ) × Matches (tokens_of (drop l.at l.tokens)) rest × Matches (tokens_of (drop l.at l.others)) rest
