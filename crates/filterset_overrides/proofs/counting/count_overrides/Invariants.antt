use Rattle.std.proofs.Common.{◌≡◌, length, take}
use Rattle.filterset_overrides.specs.Applying.{tests_of}
use Rattle.filterset_overrides.proofs.counting.count_overrides.Given as goal

-- the tests of the binaries so far were counted
abbrev pub invariant-loop-binary : goal.invariant-loop-binary
invariant-loop-binary l = l.test_count ≡ length (tests_of (take l.binary-index l.binaries))
