use Rattle.std.proofs.Common.{◌≡◌, ◌≤◌, ◌+◌, refl, sym, ◌∙◌, ap, [], ◌∷◌, drop, length, Ok, arith}
use Rattle.std.proofs.Math.Seq.{drop-length}
use Rattle.filterset_expression.specs.{declared.flat.asked.AskedLeaf.AskedLeaf, Connectives.Decides}
use Rattle.filterset_expression.specs.Expression.{CompiledLeaf, compiled_leaf}
use Rattle.filterset_expression.specs.Running.{height_after, step_of_action}
use Rattle.filterset_expression.specs.FlatSteps.{step_of, steps_of}
use Rattle.filterset_expression.proofs.FlatSteps.{steps_from, leaves_one_on, greatest_on, greatest_above, one_to_negate, two_to_combine, one_at_end}
use Rattle.filterset_expression.proofs.Decoding.{Stands, push_stands, negate_stands, combine_stands, stands_last, stands_first}
use Rattle.filterset_expression.proofs.flat.FlatExpr.run_on.Goals.{in-Push+in_ok-value-in-Push, in-Negate, in-Combine}
use Rattle.filterset_expression.proofs.flat.FlatExpr.run_on.Goals as goal

pub push-requires : goal.push-requires
push-requires g c =
    let steps = c.deref-step-items.result.now in
    let i = c.loop-step.step-index in
    let s = c.step-item.result in
    let height = length (g.S.Stack.values c.loop-step.stack) in
    let rest = steps_of (drop (i + 1) steps) in
    let here : steps_of (drop i steps) ≡ step_of s ∷ steps_of (drop (i + 1) steps) = steps_from steps i s c.loop-step-test.true c.step-item.is in
    let acts : step_of s ≡ step_of_action c.action.result = sym c.action.ensures in
    let after : height_after (step_of s) height ≡ height + 1 = rw (acts, c.in-Push.is) (omega arith) in
    let fits = rw (here, greatest_on (step_of s) rest height (height + 1) after) at c.loop-step.invariant.fits in
    let above = greatest_above rest (height + 1) in
    omega (arith, fits, above)

pub loop-step-preserved : goal.loop-step-preserved
loop-step-preserved g c =
    let steps = c.deref-step-items.result.now in
    let i = c.loop-step.step-index in
    let s = c.step-item.result in
    let values = g.S.Stack.values in
    let old = values c.loop-step.stack in
    let new = values c.match-action.stack in
    let rest = steps_of (drop (i + 1) steps) in
    let here : steps_of (drop i steps) ≡ step_of s ∷ steps_of (drop (i + 1) steps) = steps_from steps i s c.loop-step-test.true c.step-item.is in
    let acts : step_of s ≡ step_of_action c.action.result = sym c.action.ensures in
    let not_of = g.L.Logic.not_of in
    let connect = g.L.Logic.connect in
    let decides = Decides g.L.Logic.top_value g.L.Logic.bottom_value in
    let gives = λ (leaf : CompiledLeaf) (x : g.row.L.Denot). (asked : AskedLeaf) × (compiled_leaf asked.leaf.now ≡ leaf) × goal.F-post g c.args.of_leaf.now asked (Ok x) in
    let after : height_after (step_of s) (length old) ≡ length new = elim c.match-action.branch [
      | in-Push+in_ok-value-in-Push w ↦ rw (acts, w.in-Push.is, w.stack-is, w.push.ensures.values) refl
      | in-Negate w ↦ rw (acts, w.in-Negate.is, w.stack-is, w.push-in-Negate.ensures.values, w.pop-value.ensures.values) refl
      | in-Combine w ↦ rw (acts, w.in-Combine.is, w.stack-is, w.push-in-Combine.ensures.values, w.pop-right.ensures.values, w.pop-left.ensures.values) refl
    ] in
    let room : g.S.Stack.room c.loop-step.stack ≤ g.S.Stack.room c.match-action.stack = elim c.match-action.branch [
      | in-Push+in_ok-value-in-Push w ↦ rw w.stack-is w.push.ensures.room
      | in-Negate w ↦ rw w.stack-is (omega (arith, w.pop-value.ensures.room, w.push-in-Negate.ensures.room))
      | in-Combine w ↦ rw w.stack-is (omega (arith, w.pop-right.ensures.room, w.pop-left.ensures.room, w.push-in-Combine.ensures.room))
    ] in
    let stands : Stands not_of connect decides gives (steps_of steps) rest new = elim c.match-action.branch [
      | in-Push+in_ok-value-in-Push w ↦ push_stands not_of connect decides gives (steps_of steps) rest (compiled_leaf w.in-Push.leaf.now) old new w.in_ok-value-in-Push.value (record { leaf = w.in-Push.leaf; kept = c.next-kept.result }, refl, w.in_ok-value-in-Push.ensures) (ap values w.stack-is ∙ w.push.ensures.values) (rw (here, acts, w.in-Push.is) at c.loop-step.invariant.so_far)
      | in-Negate w ↦ negate_stands not_of connect decides gives (steps_of steps) rest old (values w.pop-value.new.self) new w.pop-value.result w.logic_not.result w.pop-value.ensures.values w.logic_not.ensures (ap values w.stack-is ∙ w.push-in-Negate.ensures.values) (rw (here, acts, w.in-Negate.is) at c.loop-step.invariant.so_far)
      | in-Combine w ↦ combine_stands not_of connect decides gives (steps_of steps) rest w.in-Combine.connective old (values w.pop-right.new.self) (values w.pop-left.new.self) new w.pop-left.result w.pop-right.result w.connect.result w.pop-right.ensures.values w.pop-left.ensures.values w.connect.ensures (ap values w.stack-is ∙ w.push-in-Combine.ensures.values) (rw (here, acts, w.in-Combine.is) at c.loop-step.invariant.so_far)
    ] in
    let fits = rw (here, greatest_on (step_of s) rest (length old) (length new) after) at c.loop-step.invariant.fits in
    record {
      same = c.loop-step.invariant.same;
      within = omega arith;
      runs = leaves_one_on (step_of s) rest (length old) (length new) after (rw here at c.loop-step.invariant.runs);
      fits = omega (arith, fits, room);
      so_far = stands;
    }

pub returns : goal.returns
returns g c = λ f same.
    let steps = c.deref-step-items.result.now in
    let not_of = g.L.Logic.not_of in
    let connect = g.L.Logic.connect in
    let decides = Decides g.L.Logic.top_value g.L.Logic.bottom_value in
    let gives = λ (leaf : CompiledLeaf) (x : g.row.L.Denot). (asked : AskedLeaf) × (compiled_leaf asked.leaf.now ≡ leaf) × goal.F-post g c.args.of_leaf.now asked (Ok x) in
    let end : c.loop-step.step-index ≡ length steps = omega (arith, c.loop-step.invariant.within, c.loop-step-test.false) in
    let none : drop c.loop-step.step-index steps ≡ [] = ap (λ n. drop n steps) end ∙ drop-length steps in
    stands_last not_of connect decides gives (steps_of steps) (g.S.Stack.values c.loop-step.stack) (g.S.Stack.values c.pop.new.self) c.pop.result c.pop.ensures.values (rw none at c.loop-step.invariant.so_far) f (ap steps_of c.loop-step.invariant.same ∙ same)

pub loop-step-init : goal.loop-step-init
loop-step-init g c =
    let steps = c.deref-step-items.result.now in
    let gives = λ (leaf : CompiledLeaf) (x : g.row.L.Denot). (asked : AskedLeaf) × (compiled_leaf asked.leaf.now ≡ leaf) × goal.F-post g c.args.of_leaf.now asked (Ok x) in
    record {
      same = c.deref-step-items.ensures.value;
      within = omega arith;
      runs = rw (c.deref-step-items.ensures.value, c.requires.empty) c.args.self.now.one_value;
      fits = rw (c.deref-step-items.ensures.value, c.requires.empty) c.requires.has_room;
      so_far = rw c.requires.empty (stands_first g.L.Logic.not_of g.L.Logic.connect (Decides g.L.Logic.top_value g.L.Logic.bottom_value) gives (steps_of steps));
    }

pub pop-value-requires : goal.pop-value-requires
pop-value-requires g c =
    let steps = c.deref-step-items.result.now in
    let i = c.loop-step.step-index in
    let s = c.step-item.result in
    let here : steps_of (drop i steps) ≡ step_of s ∷ steps_of (drop (i + 1) steps) = steps_from steps i s c.loop-step-test.true c.step-item.is in
    let acts : step_of s ≡ step_of_action c.action.result = sym c.action.ensures in
    one_to_negate (steps_of (drop (i + 1) steps)) (length (g.S.Stack.values c.loop-step.stack)) (rw (here, acts, c.in-Negate.is) at c.loop-step.invariant.runs)

pub push-requires-in-Negate : goal.push-requires-in-Negate
push-requires-in-Negate g c =
    let above = greatest_above (steps_of (drop c.loop-step.step-index c.deref-step-items.result.now)) (length (g.S.Stack.values c.loop-step.stack)) in
    omega (arith, above, c.loop-step.invariant.fits, c.pop-value.ensures.room, ap length c.pop-value.ensures.values)

pub pop-right-requires : goal.pop-right-requires
pop-right-requires g c =
    let steps = c.deref-step-items.result.now in
    let i = c.loop-step.step-index in
    let s = c.step-item.result in
    let here : steps_of (drop i steps) ≡ step_of s ∷ steps_of (drop (i + 1) steps) = steps_from steps i s c.loop-step-test.true c.step-item.is in
    let acts : step_of s ≡ step_of_action c.action.result = sym c.action.ensures in
    let two = two_to_combine c.in-Combine.connective (steps_of (drop (i + 1) steps)) (length (g.S.Stack.values c.loop-step.stack)) (rw (here, acts, c.in-Combine.is) at c.loop-step.invariant.runs) in
    omega (arith, two)

pub pop-left-requires : goal.pop-left-requires
pop-left-requires g c =
    let steps = c.deref-step-items.result.now in
    let i = c.loop-step.step-index in
    let s = c.step-item.result in
    let here : steps_of (drop i steps) ≡ step_of s ∷ steps_of (drop (i + 1) steps) = steps_from steps i s c.loop-step-test.true c.step-item.is in
    let acts : step_of s ≡ step_of_action c.action.result = sym c.action.ensures in
    let two = two_to_combine c.in-Combine.connective (steps_of (drop (i + 1) steps)) (length (g.S.Stack.values c.loop-step.stack)) (rw (here, acts, c.in-Combine.is) at c.loop-step.invariant.runs) in
    omega (arith, two, ap length c.pop-right.ensures.values)

pub push-requires-in-Combine : goal.push-requires-in-Combine
push-requires-in-Combine g c =
    let above = greatest_above (steps_of (drop c.loop-step.step-index c.deref-step-items.result.now)) (length (g.S.Stack.values c.loop-step.stack)) in
    omega (arith, above, c.loop-step.invariant.fits, c.pop-right.ensures.room, c.pop-left.ensures.room, ap length c.pop-right.ensures.values, ap length c.pop-left.ensures.values)

pub pop-requires : goal.pop-requires
pop-requires g c =
    let steps = c.deref-step-items.result.now in
    let end : c.loop-step.step-index ≡ length steps = omega (arith, c.loop-step.invariant.within, c.loop-step-test.false) in
    let none : drop c.loop-step.step-index steps ≡ [] = ap (λ n. drop n steps) end ∙ drop-length steps in
    one_at_end (steps_of (drop c.loop-step.step-index steps)) (length (g.S.Stack.values c.loop-step.stack)) (ap steps_of none) c.loop-step.invariant.runs
