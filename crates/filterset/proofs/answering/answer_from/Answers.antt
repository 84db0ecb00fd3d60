use Rattle.std.proofs.Common.{◌≡◌, ◌∙◌, ℕ, List, Option, ap, map, subst, sym}
use Rattle.std.proofs.lemmas.Result.{IfErr-weaker, IfOk-weaker}
use Rattle.std.specs.{Borrow.Bor, declared.io.Error.Error, Prelude.string_bytes}
use Rattle.filterset_asking.specs.Formatted.{FormatsTexts, SimplifiesTexts}
use Rattle.filterset_entries.specs.{Checked.TextRow, Checked.text_row, Endings.ending_of, declared.text.Ending.Ending}
use Rattle.filterset_display.specs.{declared.remark.Form.Form, Columns.Text, declared.source.Source.Source}
use Rattle.filterset_faults.specs.declared.kind.FiltersetKind.{FiltersetKind}
use Rattle.filterset_faults.specs.declared.kind.FiltersetKind.TheVariants as kinds
use Rattle.filterset_asking.specs.Checking.{AnswersCheck, IsCheckFault}
use Rattle.filterset_loading.specs.declared.{fault.CommandFault.CommandFault, request.CheckPaths.CheckPaths, request.Request.Request}
use Rattle.filterset_loading.specs.declared.request.Request.TheVariants.{Check, Format, Simplify}
use Rattle.filterset_loading.specs.declared.request.Texts.{Texts}
use Rattle.filterset_loading.proofs.FaultLemmas.{OrMemory-weaker}
use Rattle.filterset.specs.Requests.{AnswersWith, Faults, rows_of}
use Rattle.filterset.proofs.answering.answer_from.Goals as goal

-- the answer to a check is about standard input as this file
checked : (content : Text → Option Text) (kind : FiltersetKind) (form : Form) (texts : Texts) (paths : CheckPaths) (file : Bor Source) (rows : List TextRow)
    (ending : Ending) (text : Text) (request : Request) → request ≡ Check kind form texts paths
    → rows ≡ rows_of kind texts file → AnswersCheck content form paths rows ending text → AnswersWith content file request ending text
checked content kind form texts paths file rows ending text request is same answers =
    let Is : List TextRow → Type 0 = λ rs. AnswersCheck content form paths rs ending text in
    subst (λ r. AnswersWith content file r ending text) (sym is) (subst Is same answers)

pub returns-in_ok-given-in-Check-clause-answered : goal.returns-in_ok-given-in-Check-clause-answered
returns-in_ok-given-in-Check-clause-answered g c =
    IfOk-weaker c.check_texts.result _ _ (λ answer.
    checked (g.F.FileSource.content c.args.files.now) c.in-Check.kind c.in-Check.form c.in-Check.texts c.in-Check.paths _ _ answer.ending (string_bytes answer.text) c.args.request.now
    c.in-Check.is c.in_ok-given-in-Check.ensures)
    c.check_texts.ensures.answered

-- and its fault is one of the files
check_faults : (content : Text → Option Text) (fails : Text → Error → Type 0) (kind : FiltersetKind) (form : Form) (texts : Texts) (paths : CheckPaths) (request : Request) →
    request ≡ Check kind form texts paths → (fault : CommandFault) → IsCheckFault content fails paths fault → Faults content fails request fault
check_faults content fails kind form texts paths request is fault wrong = subst (λ r. Faults content fails r fault) (sym is) wrong

pub returns-in_ok-given-in-Check-clause-refused : goal.returns-in_ok-given-in-Check-clause-refused
returns-in_ok-given-in-Check-clause-refused g c =
    let content = g.F.FileSource.content c.args.files.now in
    let fails = g.F.FileSource.fails c.args.files.now in
    let request = c.args.request.now in
    IfErr-weaker c.check_texts.result _ _ (OrMemory-weaker (IsCheckFault content fails c.in-Check.paths) (Faults content fails request)
    (check_faults content fails c.in-Check.kind c.in-Check.form c.in-Check.texts c.in-Check.paths request c.in-Check.is)) c.check_texts.ensures.refused

-- the answer to a request to format is about standard input as this file
formatted : (content : Text → Option Text) (form : Form) (texts : Texts) (file : Bor Source) (rows : List TextRow)
    (ending : Ending) (text : Text) (request : Request) → request ≡ Format form texts → rows ≡ rows_of kinds.Test texts file
    → ((faulty : ℕ) × FormatsTexts form rows faulty text × (ending ≡ ending_of faulty)) → AnswersWith content file request ending text
formatted content form texts file rows ending text request is same answers =
    let Is : List TextRow → Type 0 = λ rs. FormatsTexts form rs answers.0 text in
    subst (λ r. AnswersWith content file r ending text) (sym is) (answers.0, subst Is same answers.1, answers.2)

pub returns-in_ok-format_texts-in-Format-clause-answered : goal.returns-in_ok-format_texts-in-Format-clause-answered
returns-in_ok-format_texts-in-Format-clause-answered g c =
    let answer = c.in_ok-format_texts-in-Format.field-0 in
    formatted (g.F.FileSource.content c.args.files.now) c.in-Format.form c.in-Format.texts _ _ answer.ending (string_bytes answer.text) c.args.request.now
    c.in-Format.is (ap (map text_row) c.as_slice.ensures.value ∙ c.in_ok-given-in-Format.ensures) c.in_ok-format_texts-in-Format.ensures

-- and so is that to a request to simplify
simplified : (content : Text → Option Text) (form : Form) (texts : Texts) (file : Bor Source) (rows : List TextRow)
    (ending : Ending) (text : Text) (request : Request) → request ≡ Simplify form texts → rows ≡ rows_of kinds.Test texts file
    → ((faulty : ℕ) × SimplifiesTexts form rows faulty text × (ending ≡ ending_of faulty)) → AnswersWith content file request ending text
simplified content form texts file rows ending text request is same answers =
    let Is : List TextRow → Type 0 = λ rs. SimplifiesTexts form rs answers.0 text in
    subst (λ r. AnswersWith content file r ending text) (sym is) (answers.0, subst Is same answers.1, answers.2)

pub returns-in_ok-simplify_texts-in-Simplify-clause-answered : goal.returns-in_ok-simplify_texts-in-Simplify-clause-answered
returns-in_ok-simplify_texts-in-Simplify-clause-answered g c =
    let answer = c.in_ok-simplify_texts-in-Simplify.field-0 in
    simplified (g.F.FileSource.content c.args.files.now) c.in-Simplify.form c.in-Simplify.texts _ _ answer.ending (string_bytes answer.text) c.args.request.now
    c.in-Simplify.is (ap (map text_row) c.as_slice-in-Simplify.ensures.value ∙ c.in_ok-given-in-Simplify.ensures) c.in_ok-simplify_texts-in-Simplify.ensures
