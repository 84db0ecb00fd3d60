use Rattle.std.proofs.Common.{◌≡◌, ◌+◌, ◌≤◌, None, IfSome, length}
use Rattle.filterset_expression.specs.FlatSteps.{steps_of}
use Rattle.filterset_deciding.specs.{AnyTest.AnyTest, Candidates.IsLeftDoubt}
use Rattle.filterset_deciding.specs.Searching.{HaveSteps, IsMissed, NoneAgrees, pushed}
use Rattle.filterset_deciding.specs.Waiting.{all_nodes, nodes}
use Rattle.filterset_deciding.proofs.searching.search.Given as goal

-- each branch has the steps, what was left is open, a test at which the answer is no agrees with a branch that is pending
-- unless a branch was left, and there are not more branches than there can be
abbrev pub invariant-branches : goal.invariant-branches
invariant-branches l =
    record {
      steps : HaveSteps (steps_of l.steps) l.pending.items;
      left : IfSome l.left (IsLeftDoubt (steps_of l.steps));
      missed : l.left ≡ None → (test : AnyTest) → IsMissed l.asked.question (steps_of l.steps) test → ¬ NoneAgrees test (steps_of l.steps) l.pending.items;
      size : l.searched + all_nodes l.pending.items ≤ nodes (length (pushed (steps_of l.steps)));
    }
