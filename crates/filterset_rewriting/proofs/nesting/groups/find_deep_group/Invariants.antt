use Rattle.std.proofs.Common.{◌≤◌, take}
use Rattle.std.specs.{Prelude.◌==◌, List.count_by}
use Rattle.filterset_rewriting.proofs.nesting.groups.find_deep_group.Given as goal

-- no more braces are open than are passed
abbrev pub invariant-loop-i : goal.invariant-loop-i
invariant-loop-i l = l.count ≤ count_by (λ b. b == 123) (take l.i l.text)
