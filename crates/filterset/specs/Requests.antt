-- What is answered to each request.
use Rattle.std.specs.Prelude.{◌≡◌, ◌⊎◌, ◌<◌, Bool, false, ℕ, List, Option, codes, map}
use Rattle.std.specs.{Borrow.Bor, declared.io.Error.Error}
use Rattle.clap.specs.declared.error.kind.ErrorKind.{ErrorKind, TheVariants.DisplayHelp, TheVariants.DisplayVersion}
use Rattle.filterset_asking.specs.Formatted.{FormatsTexts, SimplifiesTexts}
use Rattle.filterset_entries.specs.{Checked.TextRow, Endings.ending_of, Entries.line_rows, Entries.numbered_rows}
use Rattle.filterset_entries.specs.declared.text.Ending.{Ending, TheVariants.Fine}
use Rattle.filterset_display.specs.{Columns.Text, declared.source.Source.Source}
use Rattle.filterset_faults.specs.declared.kind.FiltersetKind.{FiltersetKind}
use Rattle.filterset_faults.specs.declared.kind.FiltersetKind.TheVariants as kinds
use Rattle.filterset_json.specs.Runs.{AreLeft}
use Rattle.filterset_asking.specs.Asking.{AnswersAsked, IsAskedFault}
use Rattle.filterset_asking.specs.Checking.{AnswersCheck, IsCheckFault}
use Rattle.filterset_verdicts.specs.Deciding.{AnswersDecision, IsDecisionFault}
use Rattle.filterset_loading.specs.{Files.content_of, Files.input_name, Words.IsInputFault, Words.input_count}
use Rattle.filterset_loading.specs.declared.{fault.CommandFault.CommandFault, request.Request.Request}
use Rattle.filterset_loading.specs.declared.request.Request.TheVariants.{Ask, Check, Decide, Format, Show, Simplify}
use Rattle.filterset_loading.specs.declared.request.Texts.{Texts, TheVariants.Given, TheVariants.StandardInput}

-- the text is what standard input had left, as far as that is known, if the request is about that
abbrev pub IsInput : Request → Option Text → Text → Type 0
IsInput request left input = 0 < input_count request → AreLeft left input

-- standard input, which has this text, as a file in which faults are drawn
abbrev pub IsInputFile : Text → Source → Type 0
IsInputFile input file = (file.origin.now ≡ input_name) × (file.text.now ≡ input)

-- the rows of the filtersets: the arguments, as `argument 2`, or the lines of standard input, as `line 7`
abbrev pub rows_of : FiltersetKind → Texts → Bor Source → List TextRow
rows_of kind (Given texts) file = numbered_rows (codes "argument") kind (map (λ t. t.now) texts.now)
rows_of kind StandardInput file = line_rows false file kind

-- the words of the command line ask for the help or the version
abbrev pub IsShown : ErrorKind → Type 0
IsShown kind = (kind ≡ DisplayHelp) ⊎ (kind ≡ DisplayVersion)

-- the answer to a request, and how the command ends, where files have these contents, and this is standard input
abbrev pub AnswersWith : (Text → Option Text) → Bor Source → Request → Ending → Text → Type 0
AnswersWith content file (Check kind form texts paths) = AnswersCheck content form paths (rows_of kind texts file)
AnswersWith content file (Format form texts) = λ ending text. (faulty : ℕ)
    × FormatsTexts form (rows_of kinds.Test texts file) faulty text × (ending ≡ ending_of faulty)
AnswersWith content file (Simplify form texts) = λ ending text. (faulty : ℕ)
    × SimplifiesTexts form (rows_of kinds.Test texts file) faulty text × (ending ≡ ending_of faulty)
AnswersWith content file (Ask asked) = AnswersAsked content asked
AnswersWith content file (Decide asked) = AnswersDecision content asked
AnswersWith content file (Show shown) = λ ending text. (ending ≡ Fine) × (text ≡ shown.now)

-- the same, where standard input has this text
abbrev pub Answers : (Text → Option Text) → Text → Request → Ending → Text → Type 0
Answers content input request ending text =
    (file : Bor Source) × IsInputFile input file.now × AnswersWith (content_of content input) file request ending text

-- the same, where this is left of standard input; if the bytes of that or of files are not known, it is the answer for some
abbrev pub IsAnswered : (Text → Option Text) → Request → Option Text → Ending → Text → Type 0
IsAnswered content request left ending text =
    (input : Text) × IsInput request left input × Answers content input request ending text

-- the fault of a request, where files have these contents, and reading one fails with these errors
abbrev pub Faults : (Text → Option Text) → (Text → Error → Type 0) → Request → CommandFault → Type 0
Faults content fails (Check kind form texts paths) fault = IsCheckFault content fails paths fault
Faults content fails (Ask asked) fault = IsAskedFault content fails asked fault
Faults content fails (Decide asked) fault = IsDecisionFault content fails asked fault
Faults content fails _ fault = ⊥

-- the fault of a request that is not answered, where this is left of standard input, and its reader has failed or not
abbrev pub IsFaultOf : (Text → Option Text) → (Text → Error → Type 0) → Request → Option Text → Bool → CommandFault
    → Type 0
IsFaultOf content fails request left failed fault = ((0 < input_count request) × IsInputFault left failed fault)
    ⊎ ((input : Text) × IsInput request left input × Faults (content_of content input) fails request fault)
