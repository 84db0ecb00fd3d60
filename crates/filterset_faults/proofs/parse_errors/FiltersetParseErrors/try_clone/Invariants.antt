use Rattle.std.proofs.Common.{◌≡◌, take}
use Rattle.filterset_faults.proofs.parse_errors.FiltersetParseErrors.try_clone.Given as goal

abbrev pub invariant-loop-error : goal.invariant-loop-error
invariant-loop-error l = l.errors.items ≡ take l.error-index l.error-items
