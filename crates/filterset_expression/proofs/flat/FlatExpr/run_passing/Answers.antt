use Rattle.std.proofs.Common.{◌≡◌, ◌≤◌, ◌+◌, ◌-◌, refl, sym, ◌∙◌, ap, [], ◌∷◌, drop, length, Ok, arith}
use Rattle.std.proofs.{lemmas.List.drop-map, lemmas.List.drop-drop, lemmas.List.length-map, Math.Seq.drop-length}
use Rattle.filterset_expression.specs.{declared.flat.asked.AskedLeaf.AskedLeaf, Connectives.Decides}
use Rattle.filterset_expression.specs.Expression.{CompiledLeaf, compiled_leaf}
use Rattle.filterset_expression.specs.{FlatExpressions.flat_steps, FlatSteps.step_of, FlatSteps.steps_of}
use Rattle.filterset_expression.specs.{Passing.Advances, Running.height_after, Running.step_of_action}
use Rattle.filterset_expression.proofs.Decoding.{Stands, advance_ready, push_stands, negate_stands, combine_stands, stands_last, stands_first}
use Rattle.filterset_expression.proofs.FlatSteps.{steps_from, leaves_one_on, greatest_on, greatest_above, one_to_negate, two_to_combine, one_at_end}
use Rattle.filterset_expression.proofs.Passing.{advance_within, advances_some}
use Rattle.filterset_expression.proofs.flat.FlatExpr.run_passing.Goals.{in-Push+in_ok-value-in-Push, in-Negate, in-Combine}
use Rattle.filterset_expression.proofs.flat.FlatExpr.run_passing.Goals as goal

pub push-requires : goal.push-requires
push-requires g c =
    let steps = c.args.self.now.steps.items in
    let at = c.loop-at.at in
    let s = c.index.result.now in
    let values = g.S.Stack.values in
    let old = values c.loop-at.stack in
    let rest = steps_of (drop (at + 1) steps) in
    let here : steps_of (drop at steps) ≡ step_of s ∷ rest = steps_from steps at s (omega (arith, c.len.ensures)) c.index.ensures in
    let acts : step_of s ≡ step_of_action c.action.result = sym c.action.ensures in
    let after : height_after (step_of s) (length old) ≡ length (values c.match-action.stack) + 1 = elim c.match-action.branch [
      | in-Push+in_ok-value-in-Push w ↦ rw (acts, w.in-Push.is, w.stack-is) (omega arith)
      | in-Negate w ↦ rw (acts, w.in-Negate.is, w.stack-is) (omega (arith, ap length w.pop.ensures.values))
      | in-Combine w ↦ rw (acts, w.in-Combine.is, w.stack-is, w.pop-right.ensures.values, w.pop-left.ensures.values) (omega arith)
    ] in
    let room : g.S.Stack.room c.loop-at.stack ≤ g.S.Stack.room c.match-action.stack = elim c.match-action.branch [
      | in-Push+in_ok-value-in-Push w ↦ rw w.stack-is (omega arith)
      | in-Negate w ↦ rw w.stack-is w.pop.ensures.room
      | in-Combine w ↦ rw w.stack-is (omega (arith, w.pop-right.ensures.room, w.pop-left.ensures.room))
    ] in
    let fits = rw (here, greatest_on (step_of s) rest (length old) (length (values c.match-action.stack) + 1) after) at c.loop-at.invariant.fits in
    let above = greatest_above rest (length (values c.match-action.stack) + 1) in
    omega (arith, fits, above, room)

pub overflow_add-at : goal.overflow_add-at
overflow_add-at g c =
    let steps = c.args.self.now.steps.items in
    let within = advance_within (Decides g.L.Logic.top_value g.L.Logic.bottom_value) (flat_steps c.args.self.now) c.loop-at.at c.steps_after-at.result c.match-action.value (omega (arith, c.len.ensures, length-map steps step_of)) c.steps_after-at.ensures in
    omega (arith, within, length-map steps step_of, c.args.self.now.steps.small)

pub loop-at-preserved : goal.loop-at-preserved
loop-at-preserved g c =
    let steps = c.args.self.now.steps.items in
    let all = steps_of steps in
    let at = c.loop-at.at in
    let count = c.steps_after-at.result in
    let s = c.index.result.now in
    let values = g.S.Stack.values in
    let old = values c.loop-at.stack in
    let new = values c.push.new.self in
    let value = c.match-action.value in
    let rest = steps_of (drop (at + 1) steps) in
    let here : steps_of (drop at steps) ≡ step_of s ∷ rest = steps_from steps at s (omega (arith, c.len.ensures)) c.index.ensures in
    let acts : step_of s ≡ step_of_action c.action.result = sym c.action.ensures in
    let not_of = g.L.Logic.not_of in
    let connect = g.L.Logic.connect in
    let decides = Decides g.L.Logic.top_value g.L.Logic.bottom_value in
    let gives = λ (leaf : CompiledLeaf) (x : g.row.L.Denot). (asked : AskedLeaf) × (compiled_leaf asked.leaf.now ≡ leaf) × goal.F-post g c.args.of_leaf.now asked (Ok x) in
    let after : height_after (step_of s) (length old) ≡ length new = elim c.match-action.branch [
      | in-Push+in_ok-value-in-Push w ↦ rw (acts, w.in-Push.is, c.push.ensures.values, w.stack-is) refl
      | in-Negate w ↦ rw (acts, w.in-Negate.is, c.push.ensures.values, w.stack-is, w.pop.ensures.values) refl
      | in-Combine w ↦ rw (acts, w.in-Combine.is, c.push.ensures.values, w.stack-is, w.pop-right.ensures.values, w.pop-left.ensures.values) refl
    ] in
    let room : g.S.Stack.room c.loop-at.stack ≤ g.S.Stack.room c.push.new.self = elim c.match-action.branch [
      | in-Push+in_ok-value-in-Push w ↦ rw (← w.stack-is) c.push.ensures.room
      | in-Negate w ↦ omega (arith, w.pop.ensures.room, rw w.stack-is at c.push.ensures.room)
      | in-Combine w ↦ omega (arith, w.pop-right.ensures.room, w.pop-left.ensures.room, rw w.stack-is at c.push.ensures.room)
    ] in
    let stands : Stands not_of connect decides gives all rest new = elim c.match-action.branch [
      | in-Push+in_ok-value-in-Push w ↦ push_stands not_of connect decides gives all rest (compiled_leaf w.in-Push.leaf.now) old new w.in_ok-value-in-Push.value (record { leaf = w.in-Push.leaf; kept = w.get-kept.result }, refl, w.in_ok-value-in-Push.ensures) (rw (← w.value-is, ← w.stack-is) c.push.ensures.values) (rw (here, acts, w.in-Push.is) at c.loop-at.invariant.so_far)
      | in-Negate w ↦ negate_stands not_of connect decides gives all rest old (values w.pop.new.self) new w.pop.result w.logic_not-value.result w.pop.ensures.values w.logic_not-value.ensures (rw (← w.value-is, ← w.stack-is) c.push.ensures.values) (rw (here, acts, w.in-Negate.is) at c.loop-at.invariant.so_far)
      | in-Combine w ↦ combine_stands not_of connect decides gives all rest w.in-Combine.connective old (values w.pop-right.new.self) (values w.pop-left.new.self) new w.pop-left.result w.pop-right.result w.connect-value.result w.pop-right.ensures.values w.pop-left.ensures.values w.connect-value.ensures (rw (← w.value-is, ← w.stack-is) c.push.ensures.values) (rw (here, acts, w.in-Combine.is) at c.loop-at.invariant.so_far)
    ] in
    let fits = rw (here, greatest_on (step_of s) rest (length old) (length new) after) at c.loop-at.invariant.fits in
    let runs = leaves_one_on (step_of s) rest (length old) (length new) after (rw here at c.loop-at.invariant.runs) in
    let within = advance_within decides all at count value (omega (arith, c.len.ensures, length-map steps step_of)) c.steps_after-at.ensures in
    let forward : Advances decides rest value count = rw (← drop-map step_of (at + 1) steps) c.steps_after-at.ensures in
    let ready = advance_ready not_of connect decides gives all rest new (values c.match-action.stack) value (g.S.Stack.room c.push.new.self) count c.push.ensures.values forward (runs, omega (arith, fits, room), stands) in
    let far : at + 1 + (count - 1) ≡ at + count = omega (arith, advances_some decides rest value count forward) in
    let there : drop (count - 1) rest ≡ steps_of (drop (at + count) steps) = drop-map step_of (count - 1) (drop (at + 1) steps) ∙ ap steps_of (drop-drop (count - 1) (at + 1) steps ∙ ap (λ n. drop n steps) far) in
    let on = rw there at ready in
    record {
      within = omega (arith, within, length-map steps step_of);
      runs = on.0;
      fits = on.1;
      so_far = on.2;
    }

pub returns : goal.returns
returns g c = λ f same.
    let steps = c.args.self.now.steps.items in
    let not_of = g.L.Logic.not_of in
    let connect = g.L.Logic.connect in
    let decides = Decides g.L.Logic.top_value g.L.Logic.bottom_value in
    let gives = λ (leaf : CompiledLeaf) (x : g.row.L.Denot). (asked : AskedLeaf) × (compiled_leaf asked.leaf.now ≡ leaf) × goal.F-post g c.args.of_leaf.now asked (Ok x) in
    let end : c.loop-at.at ≡ length steps = omega (arith, c.loop-at.invariant.within, c.len.ensures, c.loop-at-test.false) in
    let none : drop c.loop-at.at steps ≡ [] = ap (λ n. drop n steps) end ∙ drop-length steps in
    stands_last not_of connect decides gives (steps_of steps) (g.S.Stack.values c.loop-at.stack) (g.S.Stack.values c.pop-2.new.self) c.pop-2.result c.pop-2.ensures.values (rw none at c.loop-at.invariant.so_far) f same

pub loop-at-init : goal.loop-at-init
loop-at-init g c =
    let gives = λ (leaf : CompiledLeaf) (x : g.row.L.Denot). (asked : AskedLeaf) × (compiled_leaf asked.leaf.now ≡ leaf) × goal.F-post g c.args.of_leaf.now asked (Ok x) in
    record {
      within = omega arith;
      runs = rw c.requires.empty c.args.self.now.one_value;
      fits = rw c.requires.empty c.requires.has_room;
      so_far = rw c.requires.empty (stands_first g.L.Logic.not_of g.L.Logic.connect (Decides g.L.Logic.top_value g.L.Logic.bottom_value) gives (steps_of c.args.self.now.steps.items));
    }

pub pop-requires : goal.pop-requires
pop-requires g c =
    let steps = c.args.self.now.steps.items in
    let at = c.loop-at.at in
    let s = c.index.result.now in
    let here : steps_of (drop at steps) ≡ step_of s ∷ steps_of (drop (at + 1) steps) = steps_from steps at s (omega (arith, c.len.ensures)) c.index.ensures in
    let acts : step_of s ≡ step_of_action c.action.result = sym c.action.ensures in
    one_to_negate (steps_of (drop (at + 1) steps)) (length (g.S.Stack.values c.loop-at.stack)) (rw (here, acts, c.in-Negate.is) at c.loop-at.invariant.runs)

pub pop-right-requires : goal.pop-right-requires
pop-right-requires g c =
    let steps = c.args.self.now.steps.items in
    let at = c.loop-at.at in
    let s = c.index.result.now in
    let here : steps_of (drop at steps) ≡ step_of s ∷ steps_of (drop (at + 1) steps) = steps_from steps at s (omega (arith, c.len.ensures)) c.index.ensures in
    let acts : step_of s ≡ step_of_action c.action.result = sym c.action.ensures in
    let two = two_to_combine c.in-Combine.connective (steps_of (drop (at + 1) steps)) (length (g.S.Stack.values c.loop-at.stack)) (rw (here, acts, c.in-Combine.is) at c.loop-at.invariant.runs) in
    omega (arith, two)

pub pop-left-requires : goal.pop-left-requires
pop-left-requires g c =
    let steps = c.args.self.now.steps.items in
    let at = c.loop-at.at in
    let s = c.index.result.now in
    let here : steps_of (drop at steps) ≡ step_of s ∷ steps_of (drop (at + 1) steps) = steps_from steps at s (omega (arith, c.len.ensures)) c.index.ensures in
    let acts : step_of s ≡ step_of_action c.action.result = sym c.action.ensures in
    let two = two_to_combine c.in-Combine.connective (steps_of (drop (at + 1) steps)) (length (g.S.Stack.values c.loop-at.stack)) (rw (here, acts, c.in-Combine.is) at c.loop-at.invariant.runs) in
    omega (arith, two, ap length c.pop-right.ensures.values)

pub steps_after-at-requires : goal.steps_after-at-requires
steps_after-at-requires g c = omega (arith, c.len.ensures, length-map c.args.self.now.steps.items step_of)

pub loop-at-smaller : goal.loop-at-smaller
loop-at-smaller g c =
    let steps = c.args.self.now.steps.items in
    let forward = advances_some (Decides g.L.Logic.top_value g.L.Logic.bottom_value) (drop (c.loop-at.at + 1) (flat_steps c.args.self.now)) c.match-action.value c.steps_after-at.result c.steps_after-at.ensures in
    omega (arith, forward, c.len.ensures)

pub pop-requires-2 : goal.pop-requires-2
pop-requires-2 g c =
    let steps = c.args.self.now.steps.items in
    let end : c.loop-at.at ≡ length steps = omega (arith, c.loop-at.invariant.within, c.len.ensures, c.loop-at-test.false) in
    let none : drop c.loop-at.at steps ≡ [] = ap (λ n. drop n steps) end ∙ drop-length steps in
    one_at_end (steps_of (drop c.loop-at.at steps)) (length (g.S.Stack.values c.loop-at.stack)) (ap steps_of none) c.loop-at.invariant.runs
