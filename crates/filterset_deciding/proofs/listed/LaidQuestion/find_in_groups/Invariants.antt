use Rattle.std.proofs.Common.{take}
use Rattle.std.specs.Prelude.{All}
use Rattle.filterset_deciding.specs.Listed.{IsMetAsked}
use Rattle.filterset_deciding.proofs.listed.LaidQuestion.find_in_groups.Given as goal

-- the answer is yes in the groups so far
abbrev pub invariant-loop-group : goal.invariant-loop-group
invariant-loop-group l = All (λ g. IsMetAsked l.self l.query g.now) (take l.group-index l.groups)
