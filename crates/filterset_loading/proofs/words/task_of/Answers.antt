use Rattle.std.proofs.Common.{rules, ◌≡◌, Some, codes, false, inl, inr, true}
use Rattle.std.proofs.lemmas.Result.{err_from_is_err_and}
use Rattle.clap.specs.Words.{found_of, subcommand_name_of}
use Rattle.clap.specs.declared.parser.matches.{ArgMatches.ArgMatches, Found.Found}
use Rattle.filterset_loading.specs.Words.{Gives, IsAsked, IsGivenFault, IsTask, IsUnasked, IsWordsFault, NamesNoShell}
use Rattle.filterset_loading.specs.declared.fault.CommandFault.{CommandFault}
use Rattle.filterset_loading.specs.declared.fault.CommandFault.TheVariants.{Missing, TwoInputs}
use Rattle.filterset_loading.specs.declared.request.{Request.Request, Task.Task}
use Rattle.filterset_loading.specs.declared.request.Task.TheVariants.{Answer, Complete, Serve}
use Rattle.filterset_loading.proofs.words.task_of.Goals as goal

pub returns-in-Some-clause-asked : goal.returns-in-Some-clause-asked
returns-in-Some-clause-asked c =
    (found_of c.in-Some.own.now, (search rules, search rules), c.in_ok-shell_of.ensures.asked)

pub returns-in-Some-subcommand_matches-clause-asked : goal.returns-in-Some-subcommand_matches-clause-asked
returns-in-Some-subcommand_matches-clause-asked c =
    (found_of c.in-Some-subcommand_matches.own.now, (search rules, search rules), c.in_ok-workspace_of.ensures.asked)

-- no shell is a fault of the words
no_shell : (matches : ArgMatches) (found : Found) (fault : CommandFault) → Gives matches (codes "completions") found → NamesNoShell found fault
    → IsWordsFault matches fault
no_shell matches found (Missing id) gives none = inr (inl (found, gives, none))
no_shell matches found _ gives none = absurd none

-- a fault of what the command was given is one of the words
given_fault : (matches : ArgMatches) (fault : CommandFault) → IsGivenFault matches fault → IsWordsFault matches fault
given_fault matches (Missing id) given = inl given
given_fault matches TwoInputs given = absurd given.3
given_fault matches _ given = given

-- words that ask for no request, no script and no service ask for nothing
no_task : (matches : ArgMatches) → ((request : Request) → ¬ IsAsked matches request) → (subcommand_name_of matches ≡ Some (codes "completions") → ⊥)
    → (subcommand_name_of matches ≡ Some (codes "lsp") → ⊥) → (task : Task) → ¬ IsTask matches task
no_task matches none no_script no_service (Answer request) is = none request is.0
no_task matches none no_script no_service (Complete shell) is = no_script is.1.0
no_task matches none no_script no_service (Serve paths) is = no_service is.1.0

unasked_fault : (matches : ArgMatches) (fault : CommandFault) → IsUnasked (IsAsked matches) fault → (subcommand_name_of matches ≡ Some (codes "completions") → ⊥)
    → (subcommand_name_of matches ≡ Some (codes "lsp") → ⊥) → IsWordsFault matches fault
unasked_fault matches (Missing id) none no_script no_service = inr (inr (no_task matches none no_script no_service))
unasked_fault matches _ none no_script no_service = absurd none

pub returns-in_err-shell_of-clause-refused : goal.returns-in_err-shell_of-clause-refused
returns-in_err-shell_of-clause-refused c =
    let error = err_from_is_err_and c.from_residual.result c.from_residual.ensures.1 in
    rw (error.1, error.2) (no_shell c.args.matches.now (found_of c.in-Some.own.now) c.in_err-shell_of.field-0.0 (search rules, search rules) c.in_err-shell_of.ensures.refused)

pub returns-in_err-workspace_of-clause-refused : goal.returns-in_err-workspace_of-clause-refused
returns-in_err-workspace_of-clause-refused c =
    let error = err_from_is_err_and c.from_residual-in_err-workspace_of.result c.from_residual-in_err-workspace_of.ensures.1 in
    let own = found_of c.in-Some-subcommand_matches.own.now in
    rw (error.1, error.2) (given_fault c.args.matches.now c.in_err-workspace_of.field-0.0 (codes "lsp", own, (search rules, search rules), c.in_err-workspace_of.ensures.refused))

pub returns-in_err-request-clause-refused : goal.returns-in_err-request-clause-refused
returns-in_err-request-clause-refused c =
    let error = err_from_is_err_and c.from_residual-in_err-request.result c.from_residual-in_err-request.ensures.1 in
    let matches = c.args.matches.now in
    let fault = c.in_err-request.field-0.0 in
    rw (error.1, error.2) (elim c.in_err-request.ensures.refused [
      | inl given ↦ given_fault matches fault given
      | inr none ↦ unasked_fault matches fault none (λ named. let e : false ≡ true = c.in_default.ensures.found.1 named in cc)
          (λ named. let e : false ≡ true = (c.in_default-subcommand_matches).ensures.found.1 named in cc)
    ])
