use Rattle.std.proofs.{Common.rules, Common.arith, Common.◌∙◌, Common.sym, lemmas.Iterator.Adapters.YieldsList-from_vec}
use Rattle.std.proofs.lemmas.{Iterator.Consumers.YieldsList-end, List.length_push, List.map-id}
use Rattle.filterset_texts.specs.Parts.{FitsSome}
use Rattle.filterset_texts.proofs.Sequences.{in_turn_more, in_turn_none}
use Rattle.filterset_texts.proofs.joining.join_each.Goals as goal

pub loop-front-preserved : goal.loop-front-preserved
loop-front-preserved c =
    let new = c.in_ok-push_joined.ensures in
    let so_far = c.loop-front.invariant in
    record {
      matched = in_turn_more c.loop-front.joined.items c.push_joined.new.joined.items c.loop-front.yielded c.args.backs.now c.in-Some.front new.matched so_far.matched;
      count = rw (length_push c.loop-front.yielded c.in-Some.front) (omega (arith, new.count, so_far.count));
    }

pub returns : goal.returns
returns c =
    let left = YieldsList-from_vec {s = c.into_iter-front-iterator.result} c.args.fronts.items (search rules) (search rules) in
    let whole = YieldsList-end left c.loop-front.yielded c.loop-front.front-iterator c.loop-front.yielded_by _ c.next.new.self c.in-None.is c.next.ensures.steps in
    rw (sym (map-id c.loop-front.yielded) ∙ whole.0) at c.loop-front.invariant
