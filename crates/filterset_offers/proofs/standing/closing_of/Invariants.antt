use Rattle.std.proofs.Common.{◌≡◌, replicate, string_bytes}
use Rattle.filterset_offers.proofs.standing.closing_of.Given as goal

abbrev pub invariant-loop-written : goal.invariant-loop-written
invariant-loop-written l = string_bytes l.closing ≡ replicate l._written 41
