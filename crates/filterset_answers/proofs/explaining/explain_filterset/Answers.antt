use Rattle.std.proofs.{Common.◌∷◌, Common.[], Common.inl, Common.subst, lemmas.Result.IfOk-weaker}
use Rattle.filterset_answers.specs.Compiled.{AreFiltersets}
use Rattle.filterset_answers.proofs.explaining.explain_filterset.Goals as goal

pub returns-in-Filtersets : goal.returns-in-Filtersets
returns-in-Filtersets c =
    let setting = c.args.setting.now in
    let compiled = rw (c.in-Filtersets.is, c.from_ref.ensures.value) at c.in_ok-filtersets.ensures in
    let are = subst (λ row. AreFiltersets setting.graph.now setting.groups.now setting (row ∷ []) c.in-Filtersets.filtersets) c.in_ok-entry.ensures compiled in
    IfOk-weaker c.explain_compiled.result _ _ (λ answer tells. inl (tells _ are)) c.explain_compiled.ensures
