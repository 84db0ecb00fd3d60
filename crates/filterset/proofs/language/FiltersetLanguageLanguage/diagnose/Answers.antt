use Rattle.std.proofs.Common.{◌≡◌, ◌∙◌, List, ap, inl, inr, map, refl, string_bytes, subst, sym}
use Rattle.std.proofs.lemmas.{List.map-append, Result.IfOk-weaker}
use Rattle.serde_json.specs.{Data.Data, View.view}
use Rattle.filterset_entries.specs.{Checked.text_row, declared.text.TextEntry.TextEntry}
use Rattle.filterset_offers.specs.{Unmatched.RowsWarnings, Workspaces.known_of}
use Rattle.filterset_documents.specs.Contents.{ContentRow, names_in}
use Rattle.filterset_documents.specs.{Diagnostics.DiagnosesContent, Diagnostics.IsRefusalAt, Filtersets.SaysWhy}
use Rattle.filterset_display.specs.{Positions.Text, declared.positions.Encoding.Encoding}
use Rattle.filterset_sources.specs.declared.refusal.SourceRefusal.{SourceRefusal}
use Rattle.filterset_sources.specs.declared.refusal.SourceRefusal.TheVariants.{NotJson, NotToml, OutOfMemory, WrongValue}
use Rattle.filterset.proofs.language.FiltersetLanguageLanguage.diagnose.Goals as goal

-- a refusal with a diagnostic says what is wrong
says_why : (encoding : Encoding) (text : Text) (refusal : SourceRefusal) (d : Data) → IsRefusalAt encoding text refusal d → SaysWhy refusal
says_why encoding text (NotToml error line) d is = tt
says_why encoding text (WrongValue wrong) d is = tt
says_why encoding text (NotJson error) d is = absurd is
says_why encoding text (OutOfMemory refused) d is = absurd is

pub diagnose_entries-requires : goal.diagnose_entries-requires
diagnose_entries-requires c = rw c.in_ok-lines.ensures c.in-Ok.ensures.parsed

pub returns-in-Ok : goal.returns-in-Ok
returns-in-Ok c =
    let entries = c.in_ok-found-in-Ok.found.items in
    let content : ContentRow = record { groups = names_in c.in-Ok.open.rest; rows = map text_row entries } in
    let read = c.in-Ok.ensures.read content.rows c.in_ok-found-in-Ok.ensures in
    let holds = rw (c.is_list-is_list.ensures, c.as_str.ensures.value, c.as_str-text.ensures.value) at read in
    let text = c.in_ok-lines.lines.text.now in
    let same : text ≡ string_bytes c.args.document.now.text = rw (c.in_ok-lines.ensures, c.as_str-text.ensures.value) refl in
    let own = c.in_ok-values-in-Ok.values.items in
    let warnings = c.in_ok-warnings-in-Ok.warnings.items in
    let Own : Text → List TextEntry → Type 0 = λ text entries.
    DiagnosesContent c.args.encoding text (record { groups = names_in c.in-Ok.open.rest; rows = map text_row entries }) (map view own) in
    let Warned : Text → List TextEntry → Type 0 = λ text entries.
    RowsWarnings (known_of c.args.self.now.workspace) c.args.encoding text (map text_row entries) (map view warnings) in
    inl (
      content,
      holds,
      (
        map view own,
        map view warnings,
        subst (λ (text : Text). Own text entries) same (subst (Own text) c.as_slice-entries.ensures.value c.in_ok-values-in-Ok.ensures),
        subst (λ (text : Text). Warned text entries) same (subst (Warned text) c.as_slice-entries.ensures.value c.in_ok-warnings-in-Ok.ensures),
        ap (map view) c.in_ok-append-in-Ok.ensures.items ∙ map-append view own warnings,
      ),
    )

pub diagnose_refusal-requires : goal.diagnose_refusal-requires
diagnose_refusal-requires c = rw c.in_ok-lines.ensures c.in-Err.ensures.refused

pub returns : goal.returns
returns c =
    let refusal = c.in-Err.refusal in
    let refuses = rw c.as_str-text.ensures.value at c.in-Err.ensures.refused in
    let told = rw (c.in_ok-lines.ensures, c.as_str-text.ensures.value) at c.diagnose_refusal.ensures in
    IfOk-weaker c.diagnose_refusal.result _ _
    (λ values are.
    let (d, at, whole) = are in
    let plain = c.in-Err.ensures.configuration (says_why _ _ refusal d at) in
    inr (refusal, d, rw (c.as_str.ensures.value) at (sym c.is_list-is_list.ensures ∙ plain), refuses, at, whole))
    told
