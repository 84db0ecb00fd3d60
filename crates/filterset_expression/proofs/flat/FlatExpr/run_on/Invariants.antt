use Rattle.std.proofs.Common.{◌≡◌, ◌≤◌, true, Ok, drop, length}
use Rattle.filterset_expression.specs.{Connectives.Decides, Expression.compiled_leaf}
use Rattle.filterset_expression.specs.Running.{leaves_one, greatest_height}
use Rattle.filterset_expression.specs.{FlatSteps.steps_of, declared.flat.asked.AskedLeaf.AskedLeaf}
use Rattle.filterset_expression.proofs.Decoding.{Stands}
use Rattle.filterset_expression.proofs.flat.FlatExpr.run_on.Given as goal

abbrev pub invariant-loop-step : goal.invariant-loop-step
invariant-loop-step g l =
    record {
      same : l.step-items ≡ l.self.steps.items;
      within : l.step-index ≤ length l.step-items;
      runs : leaves_one (steps_of (drop l.step-index l.step-items)) (length (g.S.Stack.values l.stack)) ≡ true;
      fits : greatest_height (steps_of (drop l.step-index l.step-items)) (length (g.S.Stack.values l.stack)) ≤ g.S.Stack.room l.stack;
      so_far : Stands g.L.Logic.not_of g.L.Logic.connect (Decides g.L.Logic.top_value g.L.Logic.bottom_value) (λ leaf x. (asked : AskedLeaf) × (compiled_leaf asked.leaf.now ≡ leaf) × goal.F-post g l.of_leaf asked (Ok x)) (steps_of l.step-items) (steps_of (drop l.step-index l.step-items)) (g.S.Stack.values l.stack);
    }
