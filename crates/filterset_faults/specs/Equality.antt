-- When faults are equal.
use Rattle.std.specs.Prelude.{ℕ, ◌&&◌, Bool, true, false, List, Option, Some, None}
use Rattle.std.specs.Str.{bytes_eq}
use Rattle.filterset_glob.specs.declared.fault.GlobConstructError.{GlobConstructError}
use Rattle.filterset_glob.specs.contracts.fault.GlobConstructErrorPartialEq.TheImpl as glob_faults
use Rattle.filterset_faults.specs.declared.{span.SourceSpan.SourceSpan, kind.FiltersetKind.FiltersetKind}
use Rattle.filterset_faults.specs.declared.kind.BannedPredicateReason.{BannedPredicateReason}
use Rattle.filterset_faults.specs.{declared.error.ParseSingleError.ParseSingleError, Faults.code_of, Faults.span_of}
use Rattle.filterset_faults.specs.contracts.span.SourceSpanPartialEq.TheImpl as spans
use Rattle.filterset_faults.specs.contracts.kind.FiltersetKindPartialEq.TheImpl as kinds
use Rattle.filterset_faults.specs.contracts.kind.BannedPredicateReasonPartialEq.TheImpl as reasons
use Rattle.filterset_faults.specs.declared.error.ParseSingleError.TheVariants as fault

-- `==` of the parts of a fault is derived, and compares their fields.
abbrev pub same_span : SourceSpan → SourceSpan → Bool
same_span = (spans.ghosts).eq

abbrev pub same_glob_fault : GlobConstructError → GlobConstructError → Bool
same_glob_fault = (glob_faults.ghosts).eq

abbrev pub same_kind : FiltersetKind → FiltersetKind → Bool
same_kind = (kinds.ghosts).eq

abbrev pub same_reason : BannedPredicateReason → BannedPredicateReason → Bool
same_reason = (reasons.ghosts).eq

-- what a fault holds beside its span, texts by their bytes
pub data Held : Type 0 where
  nothing : Held
  glob_fault : GlobConstructError → Held
  ban : FiltersetKind → BannedPredicateReason → Held
  operators : (op suggest : List ℕ) → Held

abbrev pub held_of : ParseSingleError → Held
held_of (fault.InvalidGlob span error) = glob_fault error
held_of (fault.BannedPredicate span kind reason) = ban kind reason
held_of (fault.ExprFoundBinaryOp span op suggest) = operators op.now suggest.now
held_of (fault.ExprFoundUnaryOp span op suggest) = operators op.now suggest.now
held_of _ = nothing

-- All that a fault is, but for where its texts lie in memory. The code tells the variant.
pub record Seen : Type 0 where
  pub code : List ℕ
  pub span : Option SourceSpan
  pub held : Held

abbrev pub seen : ParseSingleError → Seen
seen a = record { code = code_of a; span = span_of a; held = held_of a }

-- whether both have the same span, or none
abbrev pub same_optional_span : Option SourceSpan → Option SourceSpan → Bool
same_optional_span (Some a) (Some b) = same_span a b
same_optional_span None None = true
same_optional_span _ _ = false

abbrev pub same_held : Held → Held → Bool
same_held nothing nothing = true
same_held (glob_fault a) (glob_fault b) = same_glob_fault a b
same_held (ban kind reason) (ban other also) = same_kind kind other && same_reason reason also
same_held (operators op suggest) (operators other also) = bytes_eq op other && bytes_eq suggest also
same_held _ _ = false

abbrev pub same_seen : Seen → Seen → Bool
same_seen a b = bytes_eq a.code b.code && (same_optional_span a.span b.span && same_held a.held b.held)

-- whether faults are equal
abbrev pub same_fault : ParseSingleError → ParseSingleError → Bool
same_fault a b = same_seen (seen a) (seen b)
