use Rattle.std.proofs.Common.{◌∙◌, ◌⊎◌, ap, inl, inr}
use Rattle.std.proofs.lemmas.Result.{IfErr-weaker, IfOk-weaker}
use Rattle.filterset_display.specs.{Columns.Text, declared.source.Source.Source}
use Rattle.filterset_asking.specs.Asking.{Lacks}
use Rattle.filterset_loading.specs.Configurations.{IsProfileFault, LacksProfile}
use Rattle.filterset_loading.specs.declared.fault.CommandFault.{CommandFault}
use Rattle.filterset_loading.proofs.FaultLemmas.{OrMemory-weaker}
use Rattle.filterset_asking.proofs.profiled.ask_configured.Goals as goal

pub returns-clause-answered : goal.returns-clause-answered
returns-clause-answered g c =
    let parts = c.configured_texts-texts.ensures in
    let origin_of : Source → Text = λ s. s.origin.now in
    let text_of : Source → Text = λ s. s.text.now in
    IfOk-weaker c.ask_profile.result _ _ (λ answer answers. (
      c.in_ok-text.field-0,
      c.in_ok-groups.groups,
      c.configured_texts-texts.result,
      c.in_ok-text.ensures.read,
      c.in_ok-groups.ensures.groups,
      (
        ap origin_of parts.file ∙ c.in_ok-source.ensures.origin ∙ c.name_of.ensures,
        ap text_of parts.file ∙ c.in_ok-source.ensures.text ∙ c.as_str.ensures.value,
        parts.filtersets ∙ c.as_slice.ensures.value,
        parts.places,
      ),
      answers,
    )) c.ask_profile.ensures.answered

pub returns-clause-refused : goal.returns-clause-refused
returns-clause-refused g c =
    let content = g.F.FileSource.content c.args.files.now in
    let fails = g.F.FileSource.fails c.args.files.now in
    let profile = c.args.profile.now in
    let asked = c.args.asked.now in
    let file = c.in_ok-text.field-0 in
    IfErr-weaker c.ask_profile.result _ _ (OrMemory-weaker (λ (fault : CommandFault). Lacks asked fault ⊎ LacksProfile file.known.request.configuration.now file.known.request.name.now file.known.profiles.items fault)
    (λ (fault : CommandFault). Lacks asked fault ⊎ IsProfileFault content fails profile fault)
    (λ fault either. elim either as (λ _. Lacks asked fault ⊎ IsProfileFault content fails profile fault) [
      | inl lacks ↦ inl lacks
      | inr lacks ↦ inr (inr (c.args.built, file, c.in_ok-text.ensures.read, rw c.in_ok-text.ensures.read.4 at lacks))
    ])) c.ask_profile.ensures.missing
