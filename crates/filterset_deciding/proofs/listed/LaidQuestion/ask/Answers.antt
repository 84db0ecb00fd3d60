use Rattle.std.proofs.Common.{arith, ◌≡◌, ◌∙◌, Bool, List, true, false, length, sym, subst}
use Rattle.std.proofs.lemmas.Bool.{false≢true}
use Rattle.filterset_deciding.specs.Deciding.{answer_of}
use Rattle.filterset_deciding.proofs.Asking.{answer_of_count, answers_of_laid, same_answers}
use Rattle.filterset_deciding.proofs.listed.LaidQuestion.ask.Goals as goal

pub returns-then-not-is_given-clause-met : goal.returns-then-not-is_given-clause-met
returns-then-not-is_given-clause-met c = λ given default exprs laid picks answers are.
    absurd (false≢true (sym c.if-not-is_given.true ∙ (c.in_ok-is_given.ensures given default laid.given_laid).1 picks))

pub returns-then-is_met-clause-met : goal.returns-then-is_met-clause-met
returns-then-is_met-clause-met c = λ given default exprs laid picks answers are.
    let query = c.args.query.now in
    let group = c.args.group.now in
    let own = c.in_ok-answers.answers.items in
    let told = answers_of_laid default query group exprs c.args.self.now.exprs.items own laid.exprs_laid (rw c.as_slice.ensures.value at c.in_ok-answers.ensures) in
    let counted = rw c.as_slice-2.ensures.value at c.count_picks-count.ensures in
    let long : c.len.result ≡ length own = omega (arith, c.len.ensures, c.in_ok-answers.answers.ok.0) in
    let met = answer_of_count c.args.self.now.question own c.count_picks-count.result c.len.result true counted long (sym c.is_met.ensures ∙ c.if-is_met.true) in
    subst (λ (xs : List Bool). answer_of c.args.self.now.question xs ≡ true) (same_answers default query group exprs own answers told are) met

pub returns-clause-unmet : goal.returns-clause-unmet
returns-clause-unmet c = λ given default exprs laid.
    let query = c.args.query.now in
    let group = c.args.group.now in
    let own = c.in_ok-answers.answers.items in
    let counted = rw c.as_slice-2.ensures.value at c.count_picks-count.ensures in
    let long : c.len.result ≡ length own = omega (arith, c.len.ensures, c.in_ok-answers.answers.ok.0) in
    record {
      is_given = (c.in_ok-is_given.ensures given default laid.given_laid).0 c.if-not-is_given.false;
      are = answers_of_laid default query group exprs c.args.self.now.exprs.items own laid.exprs_laid (rw c.as_slice.ensures.value at c.in_ok-answers.ensures);
      unmet = answer_of_count c.args.self.now.question own c.count_picks-count.result c.len.result false counted long (sym c.is_met.ensures ∙ c.if-is_met.false);
    }
