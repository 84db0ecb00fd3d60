use Rattle.std.proofs.{Common.◌⊎◌, Common.inl, Common.inr, Common.refl, lemmas.Result.IfErr-weaker, lemmas.Result.IfOk-weaker}
use Rattle.serde_json.specs.View.{view}
use Rattle.filterset_asking.specs.{Asking.Lacks, Warned.IsProfileUnused}
use Rattle.filterset_loading.specs.{Configurations.LacksProfile, declared.fault.CommandFault.CommandFault}
use Rattle.filterset_loading.proofs.FaultLemmas.{OrMemory-weaker}
use Rattle.filterset_asking.proofs.warning.warn_configured.Goals as goal

pub returns-clause-answered : goal.returns-clause-answered
returns-clause-answered g c =
    IfOk-weaker c.ask_profile.result _ _ (λ answer answers. (
      c.in_ok-built.built,
      record { request = c.args.profile.now; profiles = c.in_ok-profiles_in.field-0; platforms = c.in_ok-read_facts.field-0 },
      c.in_ok-built.ensures.read,
      refl,
      c.in_ok-profiles_in.ensures.read,
      c.in_ok-read_facts.ensures.read,
      answers,
    )) c.ask_profile.ensures.answered

pub returns-clause-refused : goal.returns-clause-refused
returns-clause-refused g c =
    let content = g.F.FileSource.content c.args.files.now in
    let fails = g.F.FileSource.fails c.args.files.now in
    let asked = c.args.asked.now in
    let profile = c.args.profile.now in
    let profiles = c.in_ok-profiles_in.field-0.items in
    let Unused : CommandFault → Type 0 =
    IsProfileUnused content fails c.args.texts.now.configured.texts.file.now.text.now asked.list.now (view c.args.value.now) profile in
    IfErr-weaker c.ask_profile.result _ _ (OrMemory-weaker (λ (fault : CommandFault). Lacks asked fault ⊎ LacksProfile profile.configuration.now profile.name.now profiles fault)
    (λ (fault : CommandFault). Lacks asked fault ⊎ Unused fault)
    (λ fault either. elim either as (λ _. Lacks asked fault ⊎ Unused fault) [
      | inl lacks ↦ inl lacks
      | inr lacks ↦ inr (inr (inr (inr (inr (profiles, c.in_ok-profiles_in.ensures.read, lacks)))))
    ])) c.ask_profile.ensures.missing
