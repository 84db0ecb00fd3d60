-- What the words of the command line ask for, and what they lack; and for how many things standard input stands.
use Rattle.std.specs.Prelude.{◌≡◌, ◌≢◌, ◌⊎◌, ◌<◌, ◌≤◌, ◌^◌, ℕ, Bool, IsTrue, true, false, List, [], ◌∷◌, Option, None, Some, codes, map, option_map, unwrap_or, ◌+◌, count_by}
use Rattle.std.specs.{Borrow.Bor, List.list_any, Str.IsUtf8}
use Rattle.std.specs.{Str.Parse.IsNumeral, Str.Parse.digits_value, Str.Parse.without_leading_plus, Option.option_map_or}
use Rattle.clap.specs.{Simple.subcommand_rows_of, Walk.rows_of}
use Rattle.clap.specs.Words.{first_value, matched_of, one_text, raw_values, subcommand_name_of}
use Rattle.clap.specs.declared.parser.matches.{ArgMatches.ArgMatches, Found.Found}
use Rattle.filterset_display.specs.declared.remark.Form.{Form, TheVariants.Drawn, TheVariants.Github, TheVariants.Json}
use Rattle.filterset_display.specs.Columns.{Text}
use Rattle.filterset_display.specs.declared.color.Color.{Color, TheVariants.Always, TheVariants.Never}
use Rattle.filterset_loading.specs.{Scripts.name_of, declared.shell.Shell.Shell, declared.request.Decision.Decision}
use Rattle.filterset_loading.specs.declared.request.Decision.TheVariants.{Cover, Disjoint, Partition, Same}
use Rattle.filterset_loading.specs.Files.{is_input}
use Rattle.filterset_loading.specs.declared.{fault.CommandFault.CommandFault, request.Asked.Asked}
use Rattle.filterset_loading.specs.declared.request.Asked.TheVariants.{Compare, Explanation, List as Listing, Overrides}
use Rattle.filterset_loading.specs.declared.fault.CommandFault.TheVariants.{Missing, MixedInput, NotText, Run, TwoInputs, WrongBudget}
use Rattle.filterset_loading.specs.declared.{profile.ProfileRequest.ProfileRequest, request.Request.Request}
use Rattle.filterset_loading.specs.declared.request.Request.TheVariants.{Ask, Check, Decide, Format, Show, Simplify}
use Rattle.filterset_loading.specs.declared.request.Task.{Task}
use Rattle.filterset_loading.specs.declared.request.Task.TheVariants.{Answer, Complete, Serve}
use Rattle.filterset_loading.specs.declared.request.Texts.{Texts, TheVariants.Given, TheVariants.StandardInput}
use Rattle.filterset_loading.specs.declared.request.WarningRequest.{WarningRequest}
use Rattle.filterset_loading.specs.declared.workspace.WorkspacePaths.{WorkspacePaths}
use Rattle.filterset_faults.specs.declared.kind.FiltersetKind.{FiltersetKind}
use Rattle.filterset_faults.specs.declared.kind.FiltersetKind.TheVariants as kinds
use Rattle.filterset_json.specs.{Runs.AreLeft, declared.fault.RunFault.TheVariants.Read}
use Rattle.filterset_sources.specs.declared.list.RunIgnored.{RunIgnored}
use Rattle.filterset_sources.specs.declared.list.RunIgnored.TheVariants.{All, Default, Only}

-- how many of these paths stand for standard input
abbrev pub inputs_of : List (Option (Bor Text)) → ℕ
inputs_of paths = count_by (λ path. option_map_or (λ p. is_input p.now) path false) paths

abbrev pub profile_inputs : Option ProfileRequest → ℕ
profile_inputs None = 0
profile_inputs (Some profile) = inputs_of (Some profile.configuration ∷ profile.target_cfg ∷ profile.host_cfg ∷ [])

abbrev pub warning_inputs : Option WarningRequest → ℕ
warning_inputs None = 0
warning_inputs (Some request) = inputs_of (Some request.paths.list ∷ request.target_cfg ∷ request.host_cfg ∷ [])

-- the filtersets are the lines of standard input, or the arguments
abbrev pub text_inputs : Texts → ℕ
text_inputs (Given texts) = 0
text_inputs StandardInput = 1

-- for how many things of a request standard input stands
abbrev pub input_count : Request → ℕ
input_count (Check kind form texts paths) =
    text_inputs texts + (inputs_of (paths.metadata ∷ paths.configuration ∷ []) + warning_inputs paths.warnings)
input_count (Format form texts) = text_inputs texts
input_count (Simplify form texts) = text_inputs texts
input_count (Ask asked) = inputs_of (Some asked.paths.metadata ∷ Some asked.paths.list ∷ []) + profile_inputs asked.profile
input_count (Decide asked) = inputs_of (asked.metadata ∷ asked.list ∷ []) + profile_inputs asked.profile
input_count (Show text) = 0

-- standard input is not UTF-8, or its reader has failed
abbrev pub IsInputFault : Option Text → Bool → CommandFault → Type 0
IsInputFault left failed NotText = (bytes : Text) × AreLeft left bytes × ¬ IsUtf8 bytes
IsInputFault left failed (Run Read) = IsTrue failed
IsInputFault left failed _ = ⊥

-- the values of an argument that may have several
abbrev pub values_of : Found → Text → List Text
values_of found id = unwrap_or (option_map raw_values (matched_of found id)) []

-- the value of an argument is this text
abbrev pub IsTextAsked : Found → Text → Text → Type 0
IsTextAsked found id text = first_value found id ≡ Some text

-- the value of an argument that need not have one
abbrev pub IsOptionAsked : Found → Text → Option (Bor Text) → Type 0
IsOptionAsked found id text = option_map (λ t. t.now) text ≡ first_value found id

-- whether a flag is given
abbrev pub IsFlagAsked : Found → Text → Bool → Type 0
IsFlagAsked found id flag =
    (one_text found id ≡ Some (codes "true") → flag ≡ true) × (one_text found id ≡ Some (codes "false") → flag ≡ false)
    × (one_text found id ≡ None → flag ≡ false)

-- `--color always` asks for colours
abbrev pub IsColorAsked : Found → Color → Type 0
IsColorAsked found Always = IsTextAsked found (codes "color") (codes "always")
IsColorAsked found Never = ¬ IsTextAsked found (codes "color") (codes "always")

-- a form for people
abbrev pub IsDrawnAsked : Found → Form → Type 0
IsDrawnAsked found form = (color : Color) × (form ≡ Drawn color) × IsColorAsked found color

-- `--message-format json` asks for JSON, and `github` for commands of a workflow
abbrev pub IsFormAsked : Found → Form → Type 0
IsFormAsked found Json = first_value found (codes "format") ≡ Some (codes "json")
IsFormAsked found Github = first_value found (codes "format") ≡ Some (codes "github")
IsFormAsked found (Drawn color) =
    (first_value found (codes "format") ≢ Some (codes "json")) × (first_value found (codes "format") ≢ Some (codes "github"))
    × IsColorAsked found color

-- `--kind` asks for filtersets of this kind
abbrev pub IsKindAsked : Found → FiltersetKind → Type 0
IsKindAsked found kinds.DefaultFilter = first_value found (codes "kind") ≡ Some (codes "default")
IsKindAsked found kinds.OverrideFilter = first_value found (codes "kind") ≡ Some (codes "override")
IsKindAsked found kinds.TestArchive = first_value found (codes "kind") ≡ Some (codes "archive")
IsKindAsked found kinds.Test =
    (first_value found (codes "kind") ≢ Some (codes "default"))
    × (first_value found (codes "kind") ≢ Some (codes "override"))
    × (first_value found (codes "kind") ≢ Some (codes "archive"))

-- the filtersets of the arguments, or else those of `-E`
abbrev pub texts_or : List Text → List Text → List Text
texts_or [] others = others
texts_or (text ∷ texts) others = text ∷ texts

abbrev pub given_texts : Found → List Text
given_texts found = texts_or (values_of found (codes "text")) (values_of found (codes "filterset"))

abbrev pub has_input : List (Bor Text) → Bool
has_input texts = list_any (λ (t : Bor Text). is_input t.now) texts

-- a lone `-` asks for the lines of standard input, and anything else is the filtersets
abbrev pub AreTextsAsked : Found → Texts → Type 0
AreTextsAsked found StandardInput = given_texts found ≡ codes "-" ∷ []
AreTextsAsked found (Given texts) =
    (map (λ t. t.now) texts.now ≡ given_texts found) × (has_input texts.now ≡ false)

-- `--run-ignored` says which listed tests count
abbrev pub IsRunIgnoredAsked : Found → RunIgnored → Type 0
IsRunIgnoredAsked found Only = first_value found (codes "run-ignored") ≡ Some (codes "only")
IsRunIgnoredAsked found All = first_value found (codes "run-ignored") ≡ Some (codes "all")
IsRunIgnoredAsked found Default = (first_value found (codes "run-ignored") ≢ Some (codes "only"))
    × (first_value found (codes "run-ignored") ≢ Some (codes "all"))

-- the files of the workspace
abbrev pub AreFilesAsked : Found → WorkspacePaths → Type 0
AreFilesAsked found paths =
    IsTextAsked found (codes "metadata") paths.metadata.now × IsTextAsked found (codes "list") paths.list.now

-- the same, and which of its tests count
abbrev pub ArePathsAsked : Found → WorkspacePaths → Type 0
ArePathsAsked found paths = AreFilesAsked found paths × IsRunIgnoredAsked found paths.run_ignored

-- the configuration and its profile, if there is a configuration
abbrev pub IsProfileAsked : Found → Option ProfileRequest → Type 0
IsProfileAsked found None = first_value found (codes "config") ≡ None
IsProfileAsked found (Some profile) =
    IsTextAsked found (codes "config") profile.configuration.now × IsTextAsked found (codes "profile") profile.name.now
    × IsOptionAsked found (codes "target-cfg") profile.target_cfg × IsOptionAsked found (codes "host-cfg") profile.host_cfg

-- what `list`, `compare`, `explain` or `overrides` asks, and the form of the answer
abbrev pub IsQuestionAsked : Text → Found → Form → Asked → Type 0
IsQuestionAsked name found form (Listing filters ignores_default) =
    (name ≡ codes "list") × IsFormAsked found form
    × (map (λ t. t.now) filters.now ≡ values_of found (codes "filterset"))
    × IsFlagAsked found (codes "ignore") ignores_default
IsQuestionAsked name found form (Compare first second has_names) =
    (name ≡ codes "compare") × IsDrawnAsked found form × IsTextAsked found (codes "first") first.now
    × IsTextAsked found (codes "second") second.now × IsFlagAsked found (codes "tests") has_names
IsQuestionAsked name found form (Explanation filter binary test) =
    (name ≡ codes "explain") × IsDrawnAsked found form × IsTextAsked found (codes "filterset") filter.now
    × IsTextAsked found (codes "binary") binary.now × IsOptionAsked found (codes "test") test
IsQuestionAsked name found form (Overrides filters binary test) =
    (name ≡ codes "overrides") × IsDrawnAsked found form
    × (map (λ t. t.now) filters.now ≡ values_of found (codes "filterset"))
    × IsOptionAsked found (codes "binary") binary × IsOptionAsked found (codes "test") test

-- the command that asks this question about filtersets
abbrev pub decision_name : Decision → Text
decision_name Same = codes "same"
decision_name Cover = codes "cover"
decision_name Disjoint = codes "disjoint"
decision_name Partition = codes "partition"

-- the text is a decimal number of 64 bits
abbrev pub IsNumber : Text → Type 0
IsNumber text = IsNumeral 10 (without_leading_plus text) × (digits_value 10 (without_leading_plus text) < 2 ^ 64)

-- `--budget` gives this number of steps
abbrev pub IsBudgetAsked : Found → ℕ → Type 0
IsBudgetAsked found budget = (text : Text) × IsTextAsked found (codes "budget") text × IsNumber text
    × (budget ≡ digits_value 10 (without_leading_plus text))

-- the list of tests by which `check` is to warn, and under which profile, if there is one
abbrev pub AreWarningsAsked : Found → Option WarningRequest → Type 0
AreWarningsAsked found None = first_value found (codes "list") ≡ None
AreWarningsAsked found (Some request) =
    ArePathsAsked found request.paths × IsTextAsked found (codes "profile") request.profile.now
    × IsOptionAsked found (codes "target-cfg") request.target_cfg × IsOptionAsked found (codes "host-cfg") request.host_cfg

-- the command with this name and these arguments asks for this
abbrev pub IsAskedBy : Text → Found → Request → Type 0
IsAskedBy name found (Check kind form texts paths) =
    (name ≡ codes "check") × IsKindAsked found kind × IsFormAsked found form × AreTextsAsked found texts
    × IsOptionAsked found (codes "metadata") paths.metadata × IsOptionAsked found (codes "config") paths.configuration
    × IsTextAsked found (codes "profile") paths.profile.now × AreWarningsAsked found paths.warnings
    × IsFlagAsked found (codes "deny") paths.denies
IsAskedBy name found (Format form texts) =
    (name ≡ codes "format") × IsDrawnAsked found form × AreTextsAsked found texts
IsAskedBy name found (Simplify form texts) =
    (name ≡ codes "simplify") × IsDrawnAsked found form × AreTextsAsked found texts
IsAskedBy name found (Ask asked) =
    IsQuestionAsked name found asked.form asked.asked × ArePathsAsked found asked.paths
    × IsOptionAsked found (codes "default") asked.default_filter × IsProfileAsked found asked.profile
IsAskedBy name found (Decide asked) =
    (name ≡ decision_name asked.question) × IsFormAsked found asked.form
    × (map (λ t. t.now) asked.texts.now ≡ values_of found (codes "filterset"))
    × IsOptionAsked found (codes "within") asked.within × IsOptionAsked found (codes "metadata") asked.metadata
    × IsOptionAsked found (codes "list") asked.list × IsRunIgnoredAsked found asked.run_ignored
    × IsOptionAsked found (codes "default") asked.default_filter × IsProfileAsked found asked.profile
    × IsBudgetAsked found asked.budget
IsAskedBy name found (Show text) = ⊥

-- the name of the command of the words, and what it was given
abbrev pub Gives : ArgMatches → Text → Found → Type 0
Gives matches name found = (subcommand_name_of matches ≡ Some name)
    × (option_map (λ p. p.1) (subcommand_rows_of matches) ≡ Some (rows_of found))

-- the words ask for this
abbrev pub IsAsked : ArgMatches → Request → Type 0
IsAsked matches request = (name : Text) × (found : Found) × Gives matches name found × IsAskedBy name found request

-- the files of the workspace, all of whose tests count, if there is one: both or none
abbrev pub IsWorkspaceAsked : Found → Option WorkspacePaths → Type 0
IsWorkspaceAsked found None = first_value found (codes "metadata") ≡ None
IsWorkspaceAsked found (Some paths) = AreFilesAsked found paths × (paths.run_ignored ≡ All)

-- the words ask for a request, in which standard input stands for one thing at most, for the script of a shell, or to serve
-- an editor, with a workspace or without
abbrev pub IsTask : ArgMatches → Task → Type 0
IsTask matches (Answer request) = IsAsked matches request × (input_count request ≤ 1)
IsTask matches (Complete shell) =
    (found : Found) × Gives matches (codes "completions") found × IsTextAsked found (codes "shell") (name_of shell)
IsTask matches (Serve paths) = (found : Found) × Gives matches (codes "lsp") found × IsWorkspaceAsked found paths

-- an argument is missing, `-` is given beside other filtersets, or the budget is no number
abbrev pub IsFaultOf : Found → CommandFault → Type 0
IsFaultOf found (Missing id) = first_value found id.now ≡ None
IsFaultOf found MixedInput = (texts : List (Bor Text)) × (map (λ t. t.now) texts ≡ given_texts found)
    × (has_input texts ≡ true) × (given_texts found ≢ codes "-" ∷ [])
IsFaultOf found WrongBudget = (text : Text) × IsTextAsked found (codes "budget") text × ¬ IsNumber text
IsFaultOf found _ = ⊥

-- something is missing, for nothing is asked so
abbrev pub IsUnasked : (Request → Type 0) → CommandFault → Type 0
IsUnasked Asked (Missing id) = (request : Request) → ¬ Asked request
IsUnasked Asked _ = ⊥

-- something is missing, for no shell is named
abbrev pub NamesNoShell : Found → CommandFault → Type 0
NamesNoShell found (Missing id) = (shell : Shell) → ¬ IsTextAsked found (codes "shell") (name_of shell)
NamesNoShell found _ = ⊥

-- what the command was given has such a fault
abbrev pub IsGivenFault : ArgMatches → CommandFault → Type 0
IsGivenFault matches fault = (name : Text) × (found : Found) × Gives matches name found × IsFaultOf found fault

-- such a fault; or an argument is missing, for no shell is named or the words ask for nothing; or `-` is given for two things
abbrev pub IsWordsFault : ArgMatches → CommandFault → Type 0
IsWordsFault matches (Missing id) = IsGivenFault matches (Missing id)
    ⊎ ((found : Found) × Gives matches (codes "completions") found × NamesNoShell found (Missing id))
    ⊎ ((task : Task) → ¬ IsTask matches task)
IsWordsFault matches TwoInputs = (request : Request) × IsAsked matches request × (1 < input_count request)
IsWordsFault matches fault = IsGivenFault matches fault
