use Rattle.filterset_expression.specs.Expression.{compiled_leaf}
use Rattle.filterset_deciding.specs.{Known.steps_in, Waiting.opens}
use Rattle.filterset_deciding.proofs.{Branches.divided_pending, Branches.divided_steps, Sizes.divided_size}
use Rattle.filterset_deciding.proofs.searching.divide.Goals as goal

pub returns : goal.returns
returns c =
    let old = c.args.pending.now.items in
    let mid = c.push.new.self.items in
    let new = c.push-2.new.self.items in
    let without = c.in_ok-without.without in
    let within = c.in_ok-within.within in
    record {
      steps = λ have.
          divided_steps (steps_in c.args.branch.now) without within old mid new c.in_ok-push.ensures.items c.in_ok-push-2.ensures.items c.in_ok-without.ensures.steps c.in_ok-within.ensures.steps have;
      divided = λ test steps none.
          divided_pending test steps c.args.branch.now without within (compiled_leaf c.args.leaf.now) old mid new
          c.in_ok-push.ensures.items c.in_ok-push-2.ensures.items c.in_ok-without.ensures.steps c.in_ok-within.ensures.steps (c.in_ok-without.ensures.known test) (c.in_ok-within.ensures.known test) none;
      fewer = λ open'.
          divided_size old mid new without within (opens c.args.branch.now) c.in_ok-push.ensures.items c.in_ok-push-2.ensures.items (c.in_ok-without.ensures.fewer open') (c.in_ok-within.ensures.fewer open');
    }
