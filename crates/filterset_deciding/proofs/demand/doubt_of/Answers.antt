use Rattle.std.proofs.lemmas.List.{take_all}
use Rattle.std.proofs.Common.{rules, arith, ◌≡◌, ◌<◌, length, get_or, take}
use Rattle.std.specs.Prelude.{Contains}
use Rattle.filterset_expression.specs.{Expression.CompiledLeaf, FlatSteps.Push, FlatSteps.step_of}
use Rattle.filterset_deciding.specs.Aspects.{IsKnownOn, IsOfField, text_of}
use Rattle.filterset_deciding.specs.{Demands.IsOfLeaf, Known.steps_in, Texts.IsMetBy}
use Rattle.filterset_deciding.specs.declared.{demand.Demand.Demand, running.ValuedStep.ValuedStep}
use Rattle.filterset_deciding.proofs.Agreeing.{demand_known, each_passed_iff, each_pushed_iff, take_one}
use Rattle.filterset_deciding.proofs.{Branches.each_pushed, Doubts.demanded}
use Rattle.filterset_deciding.proofs.demand.doubt_of.Goals.{in-Some+in_ok-push-in-Some, in-None}
use Rattle.filterset_deciding.proofs.demand.doubt_of.Goals as goal

pub loop-placed-preserved : goal.loop-placed-preserved
loop-placed-preserved c =
    let branch = c.args.branch.now in
    let field = c.args.field in
    let i = c.loop-placed.placed-index in
    let p = c.placed-item.result in
    let demands = c.loop-placed.demands.items in
    let lt : i < length branch = omega (arith, c.loop-placed-test.true) in
    let at : get_or branch i p ≡ p = search (rules, c.placed-item.is) in
    let more = take_one branch i p lt at in
    elim c.match-demand_of.branch [
      | in-Some+in_ok-push-in-Some w ↦
          let d = w.in-Some.demand in
          record {
            about = rw (w.demands-is, w.in_ok-push-in-Some.ensures.items)
                (each_pushed (λ (d : Demand). (leaf : CompiledLeaf) × Contains (steps_in branch) (Push leaf) × IsOfLeaf field d leaf) demands d c.loop-placed.invariant.about (demanded field branch i p d lt at w.in-Some.ensures.some));
            meets = λ test.
                rw (w.demands-is, w.in_ok-push-in-Some.ensures.items, more)
                (each_pushed_iff (IsMetBy (text_of field test)) (λ (q : ValuedStep). IsKnownOn (IsOfField field) test (step_of q.step) q.value) demands d (take i branch) p
                (c.loop-placed.invariant.meets test) (demand_known test field p d w.in-Some.ensures.some));
          }
      | in-None w ↦ record {
        about = rw w.demands-is c.loop-placed.invariant.about;
        meets = λ test.
            rw (w.demands-is, more)
            (each_passed_iff (IsMetBy (text_of field test)) (λ (q : ValuedStep). IsKnownOn (IsOfField field) test (step_of q.step) q.value) demands (take i branch) p
            (c.loop-placed.invariant.meets test) (w.in-None.ensures.none test));
      }
    ]

pub returns-clause-meets : goal.returns-clause-meets
returns-clause-meets c = λ test.
    rw (take_all c.loop-placed.placed-index c.args.branch.now c.loop-placed-test.false) at (c.loop-placed.invariant.meets test)
