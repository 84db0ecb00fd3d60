use Rattle.std.proofs.Common.{◌≡◌, ℕ, List, length, take, drop}
use Rattle.filterset_glob.specs.{Matching.Matches, Tokens.tokens_of}
use Rattle.filterset_glob.proofs.text.Text.count_admitted.Given as goal

abbrev pub invariant-loop-at : goal.invariant-loop-at
invariant-loop-at l = record {
  matched : Matches (tokens_of (take l.at l.tokens)) (take l.at (drop l.position l.self));
  one_each : (piece : List ℕ) → Matches (tokens_of (take l.at l.tokens)) piece → length piece ≡ l.at;
}
