use Rattle.std.proofs.lemmas.Result.{IfOk-weaker}
use Rattle.filterset_answers.proofs.CompilingLemmas.{compiles_filter}
use Rattle.filterset_answers.proofs.compiling.compile_filter.Goals as goal

pub returns-in-Some : goal.returns-in-Some
returns-in-Some c =
    IfOk-weaker c.compile_text.result _ _ (λ made is. compiles_filter c.args.compiler.now c.args.entry.now c.in-Some.filter c.args.log.now c.compile_text.new.log made c.in-Some.is is) c.compile_text.ensures
