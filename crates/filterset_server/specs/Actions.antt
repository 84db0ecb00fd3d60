-- Actions that are offered.
use Rattle.std.specs.Prelude.{◌≡◌, ◌⊎◌, ◌++◌, ◌&&◌, ℕ, Bool, true, false, List, [], ◌∷◌, IsSomeAnd, MatchBool, MatchOption, Option, None, Some, codes, length, nat_lt, slice_get, string_bytes}
use Rattle.std.specs.{List.range_with_len, Str.bytes_eq}
use Rattle.serde_json.specs.Data.{Data, array, string, object, member, no_members}
use Rattle.serde_json.specs.View.{items_of}
use Rattle.filterset_entries.specs.Checked.{TextRow}
use Rattle.filterset_documents.specs.{Contents.ContentRow, Diagnostics.IsRemarkAt, Diagnostics.fault_span}
use Rattle.filterset_documents.specs.Ranges.{edit_data}
use Rattle.filterset_documents.specs.Filtersets.{stretch_at, stretch_span}
use Rattle.filterset_documents.specs.Joins.{Joins}
use Rattle.filterset_documents.specs.Ranges.{IsRangeOf, range_data}
use Rattle.filterset_display.specs.Remarks.{fault_remark}
use Rattle.filterset_faults.specs.Faults.{span_of}
use Rattle.filterset_faults.specs.declared.{error.ParseSingleError.ParseSingleError, span.SourceSpan.SourceSpan}
use Rattle.filterset_display.specs.Positions.{IsOffset, Text}
use Rattle.filterset_display.specs.declared.{edits.Change.Change, positions.Encoding.Encoding, positions.Range.Range}
use Rattle.filterset_grammar.specs.{AddedParens.IsWithParens, Printing.printed, Tree.Tree}
use Rattle.filterset_language.specs.Parsed.{IsUnreadWith}
use Rattle.filterset_rewriting.specs.{Nesting.Depth.IsTooDeep, Nesting.Depth.most_levels, Reading.IsRead, Showing.shown}
use Rattle.filterset_rewriting.specs.Spelling.{caret_count, spelled_out}
use Rattle.filterset_server.specs.Changes.{Gets, changed_span, changed_text}
use Rattle.filterset_server.specs.{Mending.IsMending, Repairs.IsRepairOf, Repairs.RepairRow}
use Rattle.filterset_server.specs.Subjects.{ProposalRow, SubjectRow, TargetRow, meets, rewrite_row}

-- ---- values

-- a repair mends a fault, and a format writes the whole filterset anew
abbrev pub kind_of : Option ParseSingleError → Text
kind_of None = codes "refactor.rewrite"
kind_of (Some fault) = codes "quickfix"

-- the changes of a document: one edit
abbrev pub changes_data : Text → Data → Data
changes_data uri edit = object (member uri (array (items_of (edit ∷ []))) no_members)

-- an action with an edit of the document at this address, and the diagnostics that it mends
abbrev pub action_data : Text → ProposalRow → List Data → Data → Data
action_data uri p diagnostics edit =
    object (member (codes "diagnostics") (array (items_of diagnostics))
    (member (codes "edit") (object (member (codes "changes") (changes_data uri edit) no_members))
    (member (codes "kind") (string (kind_of p.fault)) (member (codes "title") (string p.repair.title) no_members))))

-- the diagnostic of the fault, if there is one
abbrev pub AreMended : TargetRow → Option ParseSingleError → List Data → Type 0
AreMended target None ds = ds ≡ []
AreMended target (Some fault) ds = (d : Data) × (ds ≡ d ∷ []) × IsRemarkAt target.subject.encoding target.subject.text
    (fault_span (Some target.place) (span_of fault)) (fault_remark fault) d

-- the action of a proposal, which puts a text in place of a range
abbrev pub IsAction : TargetRow → ProposalRow → Range → Text → Data → Type 0
IsAction target p range text d =
    (diagnostics : List Data) × AreMended target p.fault diagnostics
    × (d ≡ action_data target.subject.uri p diagnostics (edit_data text (range_data range)))

-- ---- a filterset

-- The action that makes a change of what the proposal replaces, with escapes or without, if that gives the filterset this text and
-- changes no other.
abbrev pub IsTried : TargetRow → ProposalRow → Text → Bool → Option Data → Type 0
IsTried target p new is_basic o = let subject = target.subject in let spot = target.place.spot in
    (change : Change) × (range : Range) × (gives : Bool)
    × IsRangeOf subject.encoding subject.text (changed_span spot p.fault (stretch_span p.repair.edit.at)) range
    × (change.range ≡ Some range) × (string_bytes change.text ≡ changed_text is_basic spot p.fault p.repair.edit.text)
    × Gets target new change gives × MatchBool gives (IsSomeAnd o (IsAction target p range (string_bytes change.text))) (o ≡ None)

-- the action without escapes, if there is one, or else with them
abbrev pub IsChosen : TargetRow → ProposalRow → Text → Option Data → Type 0
IsChosen target p new o = (plain : Option Data) × IsTried target p new false plain
    × MatchOption plain (IsTried target p new true o) (λ _. o ≡ plain)

-- the action by which the filterset gets this text, if a change of the file gives it that and changes no other
abbrev pub NewActions : TargetRow → ProposalRow → Text → List Data → Type 0
NewActions target p new ds =
    (o : Option Data) × IsChosen target p new o × MatchOption o (ds ≡ []) (λ d. ds ≡ d ∷ [])

-- the action of a proposal, if it mends the filterset's text
abbrev pub ProposalActions : TargetRow → ProposalRow → List Data → Type 0
ProposalActions target p ds =
    (o : Option Text) × IsMending target.text p.repair.edit o × MatchOption o (ds ≡ []) (λ new. NewActions target p new ds)

-- the repair of a fault, if it has one, and is in what is asked about
abbrev pub IsRepairIn : TargetRow → ParseSingleError → Option RepairRow → Type 0
IsRepairIn target fault o = MatchBool (meets target.subject (fault_span (Some target.place) (span_of fault)))
    (IsRepairOf target.text fault o) (o ≡ None)

-- the action that mends a fault, if it has a repair, and is in what is asked about
abbrev pub FaultActions : TargetRow → ParseSingleError → List Data → Type 0
FaultActions target fault ds = (o : Option RepairRow) × IsRepairIn target fault o
    × MatchOption o (ds ≡ []) (λ repair. ProposalActions target (record { fault = Some fault; repair = repair }) ds)

-- the action that writes a text anew, unless it is the same as another
abbrev pub RewriteActions : TargetRow → Text → Text → Text → List Data → Type 0
RewriteActions target title other new ds =
    MatchBool (bytes_eq other new) (ds ≡ []) (ProposalActions target (rewrite_row title target.text new) ds)

-- the text of a tree without `^`, if it has one to eight of them, and else as it prints
abbrev pub IsSpelled : Tree SourceSpan → Text → Type 0
IsSpelled e text = MatchBool (nat_lt 0 (caret_count e) && nat_lt (caret_count e) 9)
    ((new : Tree SourceSpan) × IsWithParens (spelled_out e) new × (text ≡ printed new)) (text ≡ printed e)

-- The actions for a text that reads as a tree: that which writes it as it prints, unless it is so already, that which
-- adds parentheses that show how it is read, unless it prints with them, and that which writes it without `^`, if it has
-- one to eight of them.
abbrev pub TreeActions : TargetRow → Tree SourceSpan → List Data → Type 0
TreeActions target e ds = (formats shows spells : List Data) × (spelled : Text)
    × RewriteActions target (codes "Format this filterset") target.text (printed e) formats
    × RewriteActions target (codes "Add parentheses") (printed e) (printed (shown e)) shows
    × IsSpelled e spelled × RewriteActions target (codes "Write without `^`") (printed e) spelled spells
    × (ds ≡ (formats ++ shows) ++ spells)

-- The actions for a filterset: those for its tree, or those that mend its faults, in their order. A text that nests too
-- deeply has none.
abbrev pub TextActions : TargetRow → List Data → Type 0
TextActions target ds = ((e : Tree SourceSpan) × IsRead target.text e × TreeActions target e ds)
    ⊎ ((faults : List ParseSingleError) × IsUnreadWith target.text faults × Joins (FaultActions target) faults ds)
    ⊎ ((deep : ℕ) × IsTooDeep most_levels target.text deep × (ds ≡ []))

-- those for a filterset at a position, if it is in what is asked about
abbrev pub RowActions : SubjectRow → ℕ → TextRow → List Data → Type 0
RowActions subject at row ds = MatchOption row.place (ds ≡ []) (λ place.
    MatchBool (meets subject (stretch_span (stretch_at place.spot)))
    (TextActions (record { subject = subject; at = at; place = place; text = row.text }) ds) (ds ≡ []))

-- ---- documents

-- the actions for the filterset at a position
abbrev pub ActionsAt : SubjectRow → ℕ → List Data → Type 0
ActionsAt subject at ds = (row : TextRow) × (slice_get subject.content.rows at ≡ Some row) × RowActions subject at row ds

-- the actions for a document: those for its filtersets, one after the other
abbrev pub AreActions : SubjectRow → List Data → Type 0
AreActions subject ds = Joins (ActionsAt subject) (range_with_len 0 (length subject.content.rows)) ds

-- the actions for a range of a document with this address and content
abbrev pub ActsOn : Encoding → Text → Text → Range → ContentRow → Data → Type 0
ActsOn encoding uri text range content d = (from to : ℕ) × (ds : List Data)
    × IsOffset encoding text range.start from × IsOffset encoding text range.end to
    × AreActions (record { encoding = encoding; text = text; uri = uri; from = from; to = to; content = content }) ds
    × (d ≡ array (items_of ds))
