use Rattle.std.proofs.{Common.◌⊎◌, Common.inl, Common.inr, lemmas.Result.IfErr-weaker, lemmas.Result.IfOk-weaker}
use Rattle.serde_json.specs.View.{view}
use Rattle.filterset_asking.specs.{Warned.IsListedFault, Warned.IsProfileUnused}
use Rattle.filterset_loading.specs.{Configurations.profile_at, declared.fault.CommandFault.CommandFault}
use Rattle.filterset_loading.proofs.FaultLemmas.{OrMemory-weaker}
use Rattle.filterset_asking.proofs.warning.warn_listed.Goals as goal

pub returns-in-None-clause-answered : goal.returns-in-None-clause-answered
returns-in-None-clause-answered g c =
    let told = rw c.as_slice.ensures.value at c.ask_plainly.ensures.answered in
    IfOk-weaker c.ask_plainly.result _ _ (λ answer answers. (view c.in_ok-list.value, c.in_ok-list.list.suites.items, c.in_ok-list.ensures.read, rw c.in-None.is answers)) told

pub returns-in-None-clause-refused : goal.returns-in-None-clause-refused
returns-in-None-clause-refused g c =
    let content = g.F.FileSource.content c.args.files.now in
    let fails = g.F.FileSource.fails c.args.files.now in
    let request = c.args.request.now in
    let texts = c.args.texts.now in
    IfErr-weaker c.ask_plainly.result _ _ (OrMemory-weaker (λ (fault : CommandFault). ⊥)
    (IsListedFault content fails texts.graph.now texts.path texts.configured.texts.file.now.text.now request)
    (λ fault lacks. absurd lacks)) c.ask_plainly.ensures.missing

pub returns-clause-answered : goal.returns-clause-answered
returns-clause-answered g c =
    let told = rw (c.as_slice.ensures.value, c.profile_at-profile.ensures) at c.warn_configured.ensures.answered in
    IfOk-weaker c.warn_configured.result _ _ (λ answer answers. (view c.in_ok-list.value, c.in_ok-list.list.suites.items, c.in_ok-list.ensures.read, rw c.in-Some.is answers)) told

pub returns-clause-refused : goal.returns-clause-refused
returns-clause-refused g c =
    let content = g.F.FileSource.content c.args.files.now in
    let fails = g.F.FileSource.fails c.args.files.now in
    let request = c.args.request.now in
    let texts = c.args.texts.now in
    let Unused : CommandFault → Type 0 =
    IsProfileUnused content fails texts.configured.texts.file.now.text.now request.paths.list.now (view c.in_ok-list.value) (profile_at c.in-Some.path request) in
    let Wrong : CommandFault → Type 0 = IsListedFault content fails texts.graph.now texts.path texts.configured.texts.file.now.text.now request in
    let told = rw c.profile_at-profile.ensures at c.warn_configured.ensures.refused in
    IfErr-weaker c.warn_configured.result _ _ (OrMemory-weaker (λ (fault : CommandFault). ⊥ ⊎ Unused fault) Wrong
    (λ fault either. elim either as (λ _. Wrong fault) [
      | inl lacks ↦ absurd lacks
      | inr unused ↦ inr (view c.in_ok-list.value, c.in_ok-list.list.suites.items, c.in_ok-list.ensures.read, rw c.in-Some.is unused)
    ])) told
