use Rattle.std.proofs.Common.{◌≡◌, ◌∙◌, ◌++◌, List, ap, inl, inr, map, string_bytes, subst, sym}
use Rattle.std.proofs.lemmas.Result.{err_from_is_err_and}
use Rattle.std.specs.{List.Contains, Prelude.codes}
use Rattle.filterset_entries.specs.Checked.{TextRow, text_row}
use Rattle.filterset_display.specs.Columns.{Text}
use Rattle.filterset_configuration.specs.declared.profiles.Profile.{Profile}
use Rattle.filterset_verdicts.specs.Deciding.{LacksAny, LacksNamed, request_rows}
use Rattle.filterset_loading.specs.declared.{request.DecisionRequest.DecisionRequest, fault.CommandFault.CommandFault}
use Rattle.filterset_loading.specs.declared.profile.ProfileRequest.{ProfileRequest}
use Rattle.filterset_loading.proofs.FaultLemmas.{OrMemory-weaker}
use Rattle.filterset_verdicts.proofs.deciding.decide_named.Goals as goal

-- a profile that a text of the request names is one that the request names
lacks_named : (request : DecisionRequest) (profile : ProfileRequest) (profiles : List Profile) (rows : List TextRow) → rows ≡ request_rows request → (fault : CommandFault) →
    LacksAny profile.configuration.now profiles rows fault → LacksNamed request profile profiles fault
lacks_named request profile profiles rows are fault lacks =
    let row = lacks.0 in
    let own = lacks.2 in
    (own.0, inr (inr (row, subst (λ rs. Contains rs row) are lacks.1, own.1)), own.2)

pub returns-in_err-entries-clause-missing : goal.returns-in_err-entries-clause-missing
returns-in_err-entries-clause-missing c =
    let request = c.args.asked.request in
    let profile = c.args.known.now.request in
    let profiles = c.args.known.now.profiles.items in
    let rows = map text_row c.args.asked.entries.items in
    let error = err_from_is_err_and c.from_residual-in_err-entries.result c.from_residual-in_err-entries.ensures.1 in
    rw (error.1, error.2) (OrMemory-weaker (LacksAny profile.configuration.now profiles rows) (LacksNamed request profile profiles)
    (lacks_named request profile profiles rows c.requires.rows) c.in_err-entries.field-0.0 c.in_err-entries.ensures.missing)

pub returns-in-Entries-clause-answered : goal.returns-in-Entries-clause-answered
returns-in-Entries-clause-answered c =
    let default = rw c.in-Entry.is at c.in_ok-default.ensures.found in
    let resolved = rw (c.in-Entries.is, c.requires.rows) at c.in_ok-entries.ensures.found in
    let answers = rw c.as_slice-entries.ensures.value at c.in_ok-decide_entries-in-Entries.ensures in
    inl (text_row c.in-Entry.default, map text_row c.in-Entries.entries.items, default, resolved, answers)

-- one of the texts stands for a default filter that is not known
pub returns-clause-answered : goal.returns-clause-answered
returns-clause-answered c =
    let resolved = rw (c.in-Unknown-2.is, c.requires.rows) at c.in_ok-entries.ensures.found in
    let unknown = rw c.as_str-in-Unknown-2.ensures.value at c.in_ok-answer_unknown-in-Unknown-2.ensures in
    inr (string_bytes c.in-Unknown-2.path, inr resolved, unknown)
