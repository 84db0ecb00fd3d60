use Rattle.std.proofs.Common.{◌≡◌, ◌↔◌, ◌<◌, ◌≤◌, take, IsTrue}
use Rattle.filterset_expression.specs.Expression.{compiled_leaf}
use Rattle.filterset_deciding.specs.{AnyTest.AnyTest, AnyTest.Says, Known.Agrees, Known.steps_in}
use Rattle.filterset_deciding.specs.Waiting.{IsOpenAt, opens}
use Rattle.filterset_deciding.proofs.branch.narrow.Given as goal

abbrev pub invariant-loop-i : goal.invariant-loop-i
invariant-loop-i l =
    record {
      steps : steps_in l.made.items ≡ steps_in (take l.i l.branch);
      known : (test : AnyTest) → (IsTrue l.value ↔ Says test (compiled_leaf l.leaf)) → Agrees test l.branch → Agrees test l.made.items;
      most : opens l.made.items ≤ opens (take l.i l.branch);
      fewer : l.at < l.i → IsOpenAt l.branch l.at → opens l.made.items < opens (take l.i l.branch);
    }
