use Rattle.std.proofs.{Common.refl, Common.subst, Common.ap, Common.◌∙◌, Common.sym, lemmas.List.Elements.All-push}
use Rattle.filterset_expression.specs.Contexts.{default_of}
use Rattle.filterset_overrides.specs.Applying.{AppliesAs, IsCompiledOf, Test}
use Rattle.filterset_overrides.specs.{Giving.asked_of, declared.applying.ExplainedOverride.ExplainedOverride}
use Rattle.filterset_overrides.proofs.ListLemmas.{pushed_map}
use Rattle.filterset_overrides.proofs.explaining.apply_all.Goals as goal

pub loop-asked-preserved : goal.loop-asked-preserved
loop-asked-preserved c =
    let all = c.args.overrides.now in
    let i = c.loop-asked.asked-index in
    let one = c.asked-item.result in
    let made : ExplainedOverride = record { asked = one; application = c.in_ok-application.application } in
    let test : Test = (c.args.query.now.binary_query, c.args.query.now.test_name.now) in
    record {
      asked = ap asked_of c.in_ok-push.ensures.items ∙ pushed_map (λ (e : ExplainedOverride). e.asked) c.loop-asked.explained.items made all i one c.loop-asked-test.true (sym c.asked-item.is) c.loop-asked.invariant.asked refl;
      applied = λ packages compiled. rw c.in_ok-push.ensures.items (All-push (λ (e : ExplainedOverride). AppliesAs packages (default_of c.args.context.now) test e.asked e.application) c.loop-asked.explained.items made
          (c.loop-asked.invariant.applied packages compiled) (c.in_ok-application.ensures packages (subst (IsCompiledOf packages) (sym c.asked-item.is) (compiled i one c.loop-asked-test.true))));
    }
