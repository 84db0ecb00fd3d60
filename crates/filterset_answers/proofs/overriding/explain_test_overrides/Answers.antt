use Rattle.std.proofs.{Common.inl, lemmas.Result.IfOk-weaker}
use Rattle.filterset_answers.proofs.overriding.explain_test_overrides.Goals as goal

pub returns-in-Filtersets : goal.returns-in-Filtersets
returns-in-Filtersets c =
    IfOk-weaker c.explain_compiled.result _ _ (λ answer tells. inl tells) c.explain_compiled.ensures
