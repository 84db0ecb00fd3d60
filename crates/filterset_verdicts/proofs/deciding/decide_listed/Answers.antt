use Rattle.std.proofs.Common.{◌⊎◌, inl, inr}
use Rattle.std.proofs.lemmas.Result.{IfErr-weaker, IfOk-weaker, err_from_is_err_and}
use Rattle.std.specs.Prelude.{IsSomeAnd}
use Rattle.serde_json.specs.View.{view}
use Rattle.filterset_verdicts.specs.Deciding.{IsListedFault, IsNamedFault}
use Rattle.filterset_verdicts.proofs.NamingLemmas.{some_and_weaker}
use Rattle.filterset_loading.specs.Workspaces.{IsPlatformsFault}
use Rattle.filterset_loading.specs.declared.{fault.CommandFault.CommandFault, profile.ProfileRequest.ProfileRequest}
use Rattle.filterset_loading.proofs.FaultLemmas.{OrMemory-weaker}
use Rattle.filterset_verdicts.proofs.deciding.decide_listed.Goals as goal

-- the platforms of the list are wrong
pub returns-in_err-built-clause-refused : goal.returns-in_err-built-clause-refused
returns-in_err-built-clause-refused g c =
    let content = g.F.FileSource.content c.args.files.now in
    let fails = g.F.FileSource.fails c.args.files.now in
    let request = c.args.request.now in
    let path = c.args.path.now in
    let list = view c.in_ok-list.value in
    let Wrong : CommandFault → ProfileRequest → Type 0 = λ fault profile. IsPlatformsFault path list fault in
    let Either : CommandFault → ProfileRequest → Type 0 = λ fault profile.
    IsPlatformsFault path list fault ⊎ IsNamedFault content fails request profile fault in
    let error = err_from_is_err_and c.from_residual-in_err-built.result c.from_residual-in_err-built.ensures.1 in
    rw (error.1, error.2) (OrMemory-weaker (λ (fault : CommandFault). IsSomeAnd request.profile (Wrong fault)) (IsListedFault content fails request c.args.graph.now path)
    (λ fault wrong. inr (list, c.in_ok-list.list.suites.items, c.in_ok-list.ensures.read, some_and_weaker request.profile (Wrong fault) (Either fault) (λ profile own. inl own) wrong))
    c.in_err-built.field-0.0 c.in_err-built.ensures.refused)

pub returns-clause-answered : goal.returns-clause-answered
returns-clause-answered g c =
    let told = rw c.as_slice.ensures.value at c.decide_known.ensures.answered in
    IfOk-weaker c.decide_known.result _ _ (λ answer answers. (
      view c.in_ok-list.value,
      c.in_ok-list.list.suites.items,
      c.in_ok-built.built,
      c.in_ok-list.ensures.read,
      c.in_ok-built.ensures.read,
      answers,
    )) told

pub returns-clause-refused : goal.returns-clause-refused
returns-clause-refused g c =
    let content = g.F.FileSource.content c.args.files.now in
    let fails = g.F.FileSource.fails c.args.files.now in
    let request = c.args.request.now in
    let path = c.args.path.now in
    let list = view c.in_ok-list.value in
    let Named : CommandFault → ProfileRequest → Type 0 = λ fault profile. IsNamedFault content fails request profile fault in
    let Either : CommandFault → ProfileRequest → Type 0 = λ fault profile.
    IsPlatformsFault path list fault ⊎ IsNamedFault content fails request profile fault in
    IfErr-weaker c.decide_known.result _ _ (OrMemory-weaker (λ (fault : CommandFault). IsSomeAnd request.profile (Named fault)) (IsListedFault content fails request c.args.graph.now path)
    (λ fault wrong. inr (list, c.in_ok-list.list.suites.items, c.in_ok-list.ensures.read, some_and_weaker request.profile (Named fault) (Either fault) (λ profile own. inr own) wrong)))
    c.decide_known.ensures.refused
