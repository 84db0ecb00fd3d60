use Rattle.std.proofs.{Common.◌∙◌, Common.sym, lemmas.Bool.false≢true}
use Rattle.std.specs.Prelude.{Contains}
use Rattle.filterset_expression.proofs.PackageIds.{found_exactly}
use Rattle.filterset_deciding.proofs.Rules.{passed_one, passed_all}
use Rattle.filterset_deciding.proofs.inferring.is_apart.Goals as goal

pub loop-id-preserved : goal.loop-id-preserved
loop-id-preserved c =
    let others = c.args.others.now.keys in
    passed_one (λ x. ¬ Contains others x) c.args.ids.now.keys c.loop-id.id-iterator c.next.new.self c.in-Some.id.now c.in-Some.ensures.steps
    (λ has. false≢true (sym c.if-contains.false ∙ c.contains.ensures ∙ (found_exactly c.in-Some.id.now others).1 has)) c.loop-id.invariant

pub returns : goal.returns
returns c = λ e.
    passed_all (λ x. ¬ Contains c.args.others.now.keys x) c.args.ids.now.keys c.loop-id.id-iterator c.in-None.ensures.steps.0 c.loop-id.invariant
