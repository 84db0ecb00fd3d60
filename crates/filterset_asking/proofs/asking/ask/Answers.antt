use Rattle.std.proofs.Common.{◌⊎◌, inl, inr}
use Rattle.std.proofs.lemmas.Result.{IfErr-weaker, IfOk-weaker, err_from_is_err_and}
use Rattle.serde_json.specs.View.{view}
use Rattle.filterset_asking.specs.Asking.{IsAskedFault, LacksIn}
use Rattle.filterset_loading.specs.{Configurations.IsProfileFault, Files.name_of, Workspaces.IsPlatformsFault}
use Rattle.filterset_loading.specs.declared.fault.CommandFault.{CommandFault}
use Rattle.filterset_loading.proofs.FaultLemmas.{OrMemory-weaker}
use Rattle.filterset_asking.proofs.asking.ask.Goals as goal

pub returns-in-None-clause-answered : goal.returns-in-None-clause-answered
returns-in-None-clause-answered g c =
    let told = rw (c.as_slice.ensures.value, c.kept_of.ensures) at c.ask_plainly.ensures.answered in
    IfOk-weaker c.ask_plainly.result _ _ (λ answer answers. (c.in_ok-graph.field-0, c.in_ok-graph.ensures.read, rw c.in-None.is answers)) told

pub returns-in-None-clause-refused : goal.returns-in-None-clause-refused
returns-in-None-clause-refused g c =
    let content = g.F.FileSource.content c.args.files.now in
    let fails = g.F.FileSource.fails c.args.files.now in
    let request = c.args.request.now in
    let workspace = c.in_ok-graph.field-0 in
    let told = rw c.as_slice.ensures.value at c.ask_plainly.ensures.missing in
    IfErr-weaker c.ask_plainly.result _ _ (OrMemory-weaker (LacksIn (name_of request.paths.list.now) request.asked workspace.list.suites.items) (IsAskedFault content fails request)
    (λ fault lacks. inr (inr (workspace, c.in_ok-graph.ensures.read, inl lacks)))) told

-- the platforms of the list are wrong
pub returns-in_err-built-in-Some-clause-refused : goal.returns-in_err-built-in-Some-clause-refused
returns-in_err-built-in-Some-clause-refused g c =
    let content = g.F.FileSource.content c.args.files.now in
    let fails = g.F.FileSource.fails c.args.files.now in
    let request = c.args.request.now in
    let workspace = c.in_ok-graph.field-0 in
    let error = err_from_is_err_and c.from_residual-in_err-built-in-Some.result c.from_residual-in_err-built-in-Some.ensures.1 in
    rw (error.1, error.2) (OrMemory-weaker (IsPlatformsFault request.paths.list.now (view workspace.value)) (IsAskedFault content fails request)
    (λ fault wrong. inr (inr (workspace, c.in_ok-graph.ensures.read, inr (rw c.in-Some.is wrong)))) c.in_err-built-in-Some.field-0.0 c.in_err-built-in-Some.ensures.refused)

pub returns-clause-answered : goal.returns-clause-answered
returns-clause-answered g c =
    let told = rw (c.as_slice.ensures.value, c.kept_of-kept.ensures, c.in_ok-default-in-Some.ensures) at c.ask_configured.ensures.answered in
    IfOk-weaker c.ask_configured.result _ _ (λ answer answers. (
      c.in_ok-graph.field-0,
      c.in_ok-graph.ensures.read,
      rw c.in-Some.is (c.in_ok-built-in-Some.built, c.in_ok-built-in-Some.ensures.read, answers),
    )) told

pub returns-clause-refused : goal.returns-clause-refused
returns-clause-refused g c =
    let content = g.F.FileSource.content c.args.files.now in
    let fails = g.F.FileSource.fails c.args.files.now in
    let request = c.args.request.now in
    let profile = c.in-Some.profile in
    let workspace = c.in_ok-graph.field-0 in
    let told = rw c.as_slice.ensures.value at c.ask_configured.ensures.refused in
    IfErr-weaker c.ask_configured.result _ _ (OrMemory-weaker (λ (fault : CommandFault). LacksIn (name_of request.paths.list.now) request.asked workspace.list.suites.items fault ⊎ IsProfileFault content fails profile fault)
    (IsAskedFault content fails request)
    (λ fault either. elim either as (λ _. IsAskedFault content fails request fault) [
      | inl lacks ↦ inr (inr (workspace, c.in_ok-graph.ensures.read, inl lacks))
      | inr own ↦ inr (inl (rw c.in-Some.is own))
    ])) told
