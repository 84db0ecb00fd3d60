use Rattle.filterset_deciding.proofs.{Branches.met_rejects, Refusing.unmet_refuses, Sizes.formulas_run, Waits.some_open}
use Rattle.filterset_deciding.proofs.searching.judge_branch.Goals as goal

pub returns-in-Some : goal.returns-in-Some
returns-in-Some c =
    let question = c.args.question in
    let branch = c.args.branch.now in
    let values = c.in-Some.values.items in
    let ran = rw c.in-Some.is at c.in_ok-values.ensures.ran in
    let waits = rw c.in-Some.is at c.in_ok-values.ensures.waits in
    record {
      met = λ e. met_rejects question branch values ran (rw c.deref.ensures.value at (c.judge.ensures.met e));
      unmet = λ e. unmet_refuses question branch values ran (rw c.deref.ensures.value at (c.judge.ensures.unmet e));
      opened = λ at e. some_open values branch at waits (rw c.deref.ensures.value at (c.judge.ensures.opened at e));
    }

pub returns-in-None-clause-unmet : goal.returns-in-None-clause-unmet
returns-in-None-clause-unmet c = λ e formulas made.
    absurd (formulas_run formulas c.args.branch.now made (rw c.in-None.is at c.in_ok-values.ensures.ran))
