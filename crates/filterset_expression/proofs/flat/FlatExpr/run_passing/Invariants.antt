use Rattle.std.proofs.Common.{◌≡◌, ◌≤◌, ◌-◌, true, Ok, drop, length}
use Rattle.filterset_expression.specs.{Connectives.Decides, Expression.compiled_leaf, FlatSteps.steps_of}
use Rattle.filterset_expression.specs.Running.{leaves_one, greatest_height}
use Rattle.filterset_expression.specs.declared.flat.asked.AskedLeaf.{AskedLeaf}
use Rattle.filterset_expression.proofs.Decoding.{Stands}
use Rattle.filterset_expression.proofs.flat.FlatExpr.run_passing.Given as goal

abbrev pub invariant-loop-at : goal.invariant-loop-at
invariant-loop-at g l =
    record {
      within : l.at ≤ length l.self.steps.items;
      runs : leaves_one (steps_of (drop l.at l.self.steps.items)) (length (g.S.Stack.values l.stack)) ≡ true;
      fits : greatest_height (steps_of (drop l.at l.self.steps.items)) (length (g.S.Stack.values l.stack)) ≤ g.S.Stack.room l.stack;
      so_far : Stands g.L.Logic.not_of g.L.Logic.connect (Decides g.L.Logic.top_value g.L.Logic.bottom_value) (λ leaf x. (asked : AskedLeaf) × (compiled_leaf asked.leaf.now ≡ leaf) × goal.F-post g l.of_leaf asked (Ok x)) (steps_of l.self.steps.items) (steps_of (drop l.at l.self.steps.items)) (g.S.Stack.values l.stack);
    }

abbrev pub decreases-loop-at : goal.decreases-loop-at
decreases-loop-at g l = length l.self.steps.items - l.at
