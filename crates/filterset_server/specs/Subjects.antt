-- The document whose filtersets may be changed, and what may be done with one.
use Rattle.std.specs.Prelude.{◌-◌, ◌&&◌, ℕ, Bool, None, Option, length, nat_le}
use Rattle.filterset_entries.specs.Placements.{Placement, placement_of}
use Rattle.filterset_documents.specs.Contents.{ContentRow, content_row}
use Rattle.filterset_display.specs.{Positions.Text, declared.positions.Encoding.Encoding}
use Rattle.filterset_faults.specs.{Span.length_of, Span.offset_of}
use Rattle.filterset_faults.specs.declared.{error.ParseSingleError.ParseSingleError, span.SourceSpan.SourceSpan}
use Rattle.filterset_server.specs.Repairs.{RepairRow, repair_row}
use Rattle.filterset_server.specs.declared.{subject.Proposal.Proposal, subject.Subject.Subject, target.Target.Target}

-- a document with its address, what it holds, and the offsets between which it is asked about
pub record SubjectRow : Type 0 where
  pub encoding : Encoding
  pub text : Text
  pub uri : Text
  pub from : ℕ
  pub to : ℕ
  pub content : ContentRow

abbrev pub subject_row : Subject → SubjectRow
subject_row s = record {
  encoding = s.shown.now.encoding;
  text = s.shown.now.lines.text.now;
  uri = s.uri.now;
  from = s.from;
  to = s.to;
  content = content_row s.content;
}

-- the span is in what is asked about, or touches that
abbrev pub meets : SubjectRow → SourceSpan → Bool
meets subject s = nat_le (offset_of s) subject.to && nat_le (subject.from - offset_of s) (length_of s)

-- a filterset of a document: its position there, its place in the file, and its text
pub record TargetRow : Type 0 where
  pub subject : SubjectRow
  pub at : ℕ
  pub place : Placement
  pub text : Text

abbrev pub target_row : Target → TargetRow
target_row t =
    record { subject = subject_row t.subject.now; at = t.at; place = placement_of t.place; text = t.text.now }

-- an edit of a filterset's text, and the fault that it mends; without one it writes the whole filterset anew
pub record ProposalRow : Type 0 where
  pub fault : Option ParseSingleError
  pub repair : RepairRow

abbrev pub proposal_row : Proposal → ProposalRow
proposal_row p = record { fault = p.fault; repair = repair_row p.repair }

-- a text is written anew
abbrev pub rewrite_row : Text → Text → Text → ProposalRow
rewrite_row title text new = record {
  fault = None;
  repair = record { title = title; edit = record { at = record { from = 0; to = length text }; text = new } };
}
