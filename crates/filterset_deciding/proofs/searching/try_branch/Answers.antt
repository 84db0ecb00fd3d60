use Rattle.std.proofs.Common.{◌≡◌, subst, sym}
use Rattle.filterset_expression.specs.Contexts.{default_of}
use Rattle.filterset_deciding.specs.{AnyTest.AnyTest, Deciding.IsOf, Deciding.IsUnmetAt, Known.Agrees}
use Rattle.filterset_deciding.specs.Searching.{AreAnswersAt}
use Rattle.filterset_deciding.specs.declared.witness.{PossibleTest.PossibleTest, Witness.Witness}
use Rattle.filterset_deciding.proofs.Refusing.{refused_at}
use Rattle.filterset_deciding.proofs.searching.try_branch.Goals as goal

pub returns-in_ok-ask_all-in-Ok-clause-found :
    goal.returns-in_ok-ask_all-in-Ok-clause-found
returns-in_ok-ask_all-in-Ok-clause-found c = λ witness e made.
    let asked = c.args.asked.now in
    let default = default_of asked.cx in
    let exprs = asked.exprs.now in
    let made_witness = c.in_ok-ask_all-in-Ok in
    let same : made_witness.field-0 ≡ witness = cc in
    let At : Witness → Type 0 = λ w. IsUnmetAt asked.question asked.given.now default exprs w.test w.picks.items in
    let are = subst (λ t. AreAnswersAt default exprs t made_witness.field-0.picks.items) (sym made_witness.ensures.test) made_witness.ensures.picks in
    let agrees = subst (λ (t : PossibleTest). (test : AnyTest) → IsOf test t → Agrees test c.args.branch.now) (sym made_witness.ensures.test) c.in-Ok.ensures.test in
    subst At same (refused_at asked.question asked.given.now default exprs c.args.branch.now made_witness.field-0.test made_witness.field-0.picks.items c.requires made agrees are)

pub returns-in-Err-Impossible-clause-closed : goal.returns-in-Err-Impossible-clause-closed
returns-in-Err-Impossible-clause-closed c = λ e test steps missed agrees. (rw c.in-Err-Impossible.field-0-is at c.in-Err-Impossible.ensures.fault) test agrees.1
