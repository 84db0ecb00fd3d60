use Rattle.std.proofs.Common.{◌≡◌, ◌∙◌, Some, None, [], ◌++◌, IfSome, sym, ap, subst, length, arith, inl, inr}
use Rattle.std.specs.{List.AllByRecursion, declared.vec.Vec.Vec, declared.alloc.Global.Global}
use Rattle.filterset_expression.specs.{FlatSteps.steps_of, Contexts.default_of}
use Rattle.filterset_deciding.specs.Candidates.{HasOpen, IsLeftDoubt}
use Rattle.filterset_deciding.specs.{Deciding.IsUnmetAt, declared.witness.Witness.Witness, Known.steps_in}
use Rattle.filterset_deciding.specs.Searching.{AgreesWith, HaveSteps, NoneAgrees, pushed}
use Rattle.filterset_deciding.specs.{Waiting.nodes, declared.running.ValuedStep.ValuedStep}
use Rattle.filterset_deciding.proofs.Branches.{each_before, each_pushed, kept_steps, one_fewer}
use Rattle.filterset_deciding.proofs.Sizes.{kept_size, start_size, stopped_before}
use Rattle.filterset_deciding.proofs.searching.search.Goals.{in-Closed, in-Left, in-None-left, in-Some-left}
use Rattle.filterset_deciding.specs.declared.searching.Searched.TheVariants as searched
use Rattle.filterset_deciding.proofs.searching.search.Goals as goal

pub branches-init : goal.branches-init
branches-init c =
    let steps = steps_of c.args.steps.now in
    let first = c.in_ok-start_branch.field-0 in
    let have : HaveSteps steps c.new-pending.result.items = subst (HaveSteps steps) (sym c.new-pending.ensures.items) tt in
    let few = start_size steps first c.new-pending.result.items c.push.new.self.items c.in_ok-start_branch.ensures.steps c.new-pending.ensures.items c.in_ok-push.ensures.items in
    record {
      steps = subst (HaveSteps steps) (sym c.in_ok-push.ensures.items)
          (each_pushed (λ (b : Vec ValuedStep Global). steps_in b.items ≡ steps) c.new-pending.result.items first have c.in_ok-start_branch.ensures.steps);
      left = tt;
      missed = λ e test missed none.
          let P : Vec ValuedStep Global → Type 0 = λ b. ¬ AgreesWith test steps b.items in
          let alone = subst (AllByRecursion P) c.in_ok-push.ensures.items none in
          (each_before P c.new-pending.result.items first alone).1 (c.in_ok-start_branch.ensures.steps, c.in_ok-start_branch.ensures.known test);
      size = omega (arith, few);
    }

pub returns-in-None-clause-nothing : goal.returns-in-None-clause-nothing
returns-in-None-clause-nothing c =
    elim c.match-left.branch [
      | in-Some-left w ↦ rw w.result-is (λ e. absurd (let clash : searched.Unknown w.in-Some-left.doubt ≡ searched.Nothing = e in cc))
      | in-None-left w ↦ rw w.result-is (λ e test missed.
          let mid : c.pop.new.self.items ≡ [] = rw c.in-None.ensures.cases.0 at c.in-None.ensures.rest in
          let none : c.branches.pending.items ≡ [] = c.in-None.ensures.items ∙ ap (λ m. m ++ []) mid in
          c.branches.invariant.missed w.in-None-left.is test missed (subst (NoneAgrees test (steps_of c.args.steps.now)) (sym none) tt))
    ]

pub branches-preserved : goal.branches-preserved
branches-preserved c =
    let steps = steps_of c.args.steps.now in
    let branch = c.in-Some.branch in
    let old = c.branches.pending.items in
    let mid = c.pop.new.self.items in
    let new = c.explore.new.pending.items in
    let kept = kept_steps steps old mid new branch c.in-Some.ensures.items (rw c.deref.ensures.value at c.in_ok-explore.ensures.steps) c.branches.invariant.steps in
    let size = kept_size c.branches.searched (nodes (length (pushed steps))) old mid new branch c.in-Some.ensures.items (rw c.deref.ensures.value at c.in_ok-explore.ensures.fewer) c.branches.invariant.size in
    elim c.match-branch-4.branch [
      | in-Closed w ↦ record {
        steps = kept.0;
        left = subst (λ o. IfSome o (IsLeftDoubt steps)) (sym w.left-is) c.branches.invariant.left;
        missed = λ none test missed.
            one_fewer test steps old mid new branch c.in-Some.ensures.items
            (rw c.deref.ensures.value at (c.in_ok-explore.ensures.closed w.in-Closed.is test steps missed))
            (c.branches.invariant.missed (sym w.left-is ∙ none) test missed);
        size = size;
      }
      | in-Left w ↦ record {
        steps = kept.0;
        left = subst (λ o. IfSome o (IsLeftDoubt steps)) (sym w.left-is)
            (subst (λ s. IsLeftDoubt s w.in-Left.doubt) kept.1 (rw c.deref.ensures.value at (c.in_ok-explore.ensures.left w.in-Left.doubt w.in-Left.is)));
        missed = λ none test missed. absurd (let clash : Some w.in-Left.doubt ≡ None = sym w.left-is ∙ none in cc);
        size = size;
      }
    ]

pub returns-in-Found-clause-found : goal.returns-in-Found-clause-found
returns-in-Found-clause-found c = λ witness e made.
    let asked = c.args.asked.now in
    let steps = steps_of c.args.steps.now in
    let kept = kept_steps steps c.branches.pending.items c.pop.new.self.items c.explore.new.pending.items c.in-Some.branch c.in-Some.ensures.items
    (rw c.deref.ensures.value at c.in_ok-explore.ensures.steps) c.branches.invariant.steps in
    let own = (rw c.deref.ensures.value at (c.in_ok-explore.ensures.found c.in-Found.witness c.in-Found.is)) (kept.1 ∙ made) in
    let same : c.in-Found.witness ≡ witness = cc in
    subst (λ (w : Witness). IsUnmetAt asked.question asked.given.now (default_of asked.cx) asked.exprs.now w.test w.picks.items) same own

pub returns-clause-stopped : goal.returns-clause-stopped
returns-clause-stopped c = λ e.
    inl (stopped_before c.args.branches c.branches.searched (length (pushed (steps_of c.args.steps.now))) c.branches.pending.items c.branches-test.false c.branches.invariant.size)

pub returns-in-Stopped-clause-stopped : goal.returns-in-Stopped-clause-stopped
returns-in-Stopped-clause-stopped c = λ e.
    let steps = steps_of c.args.steps.now in
    let kept = kept_steps steps c.branches.pending.items c.pop.new.self.items c.explore.new.pending.items c.in-Some.branch c.in-Some.ensures.items
    (rw c.deref.ensures.value at c.in_ok-explore.ensures.steps) c.branches.invariant.steps in
    inr (subst HasOpen kept.1 (rw c.deref.ensures.value at (c.in_ok-explore.ensures.stopped c.in-Stopped.is)))
