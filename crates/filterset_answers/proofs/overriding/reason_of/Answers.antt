use Rattle.std.proofs.{Common.string_bytes, lemmas.Result.IfOk-weaker}
use Rattle.filterset_expression.specs.Contexts.{default_of}
use Rattle.filterset_answers.proofs.OverridingLemmas.{filter_reason, no_reason}
use Rattle.filterset_answers.proofs.overriding.reason_of.Goals as goal

pub returns-in_ok-explanation-in-Some : goal.returns-in_ok-explanation-in-Some
returns-in_ok-explanation-in-Some c =
    IfOk-weaker c.explain_text.result _ _ (λ reason written. filter_reason c.args.query.now c.args.setting.now (default_of c.args.context.now) c.args.made.now c.in-Some.filter (string_bytes reason) c.in-Some.is (λ compiled. (c.in_ok-explanation-in-Some.explanation, c.in_ok-explanation-in-Some.ensures compiled, written))) c.explain_text.ensures

pub returns-in-None : goal.returns-in-None
returns-in-None c =
    no_reason c.args.query.now c.args.setting.now (default_of c.args.context.now) c.args.made.now (string_bytes c.new.result) c.in-None.is c.new.ensures.bytes
