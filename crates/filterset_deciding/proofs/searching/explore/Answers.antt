use Rattle.std.proofs.{Common.arith, lemmas.Result.IfOk-weaker}
use Rattle.filterset_deciding.specs.Waiting.{opens}
use Rattle.filterset_deciding.proofs.{Refusing.any_ok, Sizes.nodes_some}
use Rattle.filterset_deciding.proofs.searching.explore.Goals as goal

pub returns-in-Met-clause-fewer : goal.returns-in-Met-clause-fewer
returns-in-Met-clause-fewer c = let some = nodes_some (opens c.args.branch.now) in omega (arith, some)

pub returns-in-Unmet-clause-fewer : goal.returns-in-Unmet-clause-fewer
returns-in-Unmet-clause-fewer c = any_ok c.try_branch.result (let some = nodes_some (opens c.args.branch.now) in omega (arith, some))

pub returns-in-Unmet-clause-closed : goal.returns-in-Unmet-clause-closed
returns-in-Unmet-clause-closed c =
    IfOk-weaker c.try_branch.result _ _ (λ found closed e test steps missed none. (none, closed e test steps missed)) c.try_branch.ensures.closed

pub returns-in_ok-divide-in-Some-clause-closed :
    goal.returns-in_ok-divide-in-Some-clause-closed
returns-in_ok-divide-in-Some-clause-closed c = λ e test steps missed none. c.in_ok-divide-in-Some.ensures.divided test steps none

pub returns-in_ok-divide-in-Some-clause-fewer :
    goal.returns-in_ok-divide-in-Some-clause-fewer
returns-in_ok-divide-in-Some-clause-fewer c = c.in_ok-divide-in-Some.ensures.fewer (c.in_ok-judge_branch.ensures.opened c.in-Open.at c.in-Open.is)

pub returns-in-None-clause-fewer : goal.returns-in-None-clause-fewer
returns-in-None-clause-fewer c = let some = nodes_some (opens c.args.branch.now) in omega (arith, some)

pub returns-in-None-clause-closed : goal.returns-in-None-clause-closed
returns-in-None-clause-closed c = λ e test steps missed none.
    absurd (c.in-None.ensures.none (c.in_ok-judge_branch.ensures.opened c.in-Open.at c.in-Open.is))

pub returns-in-Met-clause-closed : goal.returns-in-Met-clause-closed
returns-in-Met-clause-closed c = λ e test steps missed none. (none, c.in_ok-judge_branch.ensures.met c.in-Met.is test steps missed)
