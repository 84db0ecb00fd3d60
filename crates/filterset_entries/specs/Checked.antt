-- Which faults a text has.
use Rattle.std.specs.Prelude.{◌≡◌, ◌≢◌, ◌≤◌, ◌⊎◌, ℕ, List, [], ◌∷◌, Option, None, Some, codes, false, filter, map, option_map, string_bytes}
use Rattle.filterset_display.specs.{Columns.Text, Remarks.RemarkRow, Remarks.fault_remark, Remarks.said}
use Rattle.filterset_display.specs.declared.remark.Severity.TheVariants.{Error}
use Rattle.filterset_expression.specs.Expression.{has_leaf, is_default, is_group}
use Rattle.filterset_expression.specs.Meaning.{IsCompiled}
use Rattle.filterset_faults.specs.{Span.span, declared.error.ParseSingleError.ParseSingleError}
use Rattle.filterset_faults.specs.declared.{kind.FiltersetKind.FiltersetKind, span.SourceSpan.SourceSpan}
use Rattle.filterset_faults.specs.declared.kind.FiltersetKind.TheVariants as kinds
use Rattle.filterset_graph.specs.declared.package.PackageMetadata.{PackageMetadata}
use Rattle.filterset_grammar.specs.Tree.{Tree}
use Rattle.filterset_language.specs.Views.{tree_of}
use Rattle.nextest_filtering.specs.Compiling.{IsFiltersetOf, IsRefusedWith, packages_of}
use Rattle.nextest_filtering.specs.declared.{compile.context.KnownGroups.KnownGroups, filterset.Filterset.Filterset}
use Rattle.filterset_rewriting.specs.Nesting.Depth.{IsTooDeep, depth, most_levels}
use Rattle.filterset_rewriting.specs.Reading.{IsRead, IsUnreadFor}
use Rattle.filterset_rewriting.specs.declared.reading.TextRefusal.{TextRefusal, TheVariants.Found, TheVariants.TooDeep}
use Rattle.filterset_entries.specs.{Names.is_judged, Placements.Placement, Placements.placement_of}
use Rattle.filterset_entries.specs.declared.{names.Names.Names, text.TextEntry.TextEntry}

-- a filterset's text, what it is to be, and where it stands, also in a file
pub record TextRow : Type 0 where
  pub origin : Text
  pub kind : FiltersetKind
  pub text : Text
  pub place : Option Placement

-- a text that is in no file
abbrev pub row_of : Text → FiltersetKind → Text → TextRow
row_of origin kind text = record { origin = origin; kind = kind; text = text; place = None }

abbrev pub text_row : TextEntry → TextRow
text_row entry =
    record (row_of (string_bytes entry.origin) entry.kind entry.text.now) { place = option_map placement_of entry.place }

-- the text is a filterset of its kind over the packages and groups, by this tree, within the levels that it may have
abbrev pub IsAccepted : List PackageMetadata → KnownGroups → TextRow → Tree SourceSpan → Type 0
IsAccepted packages groups row e = IsFiltersetOf row.text row.kind packages groups e × (depth e ≤ most_levels)

-- the same, compiled to this expression
pub record IsFiltersetFor (packages : List PackageMetadata) (groups : KnownGroups) (row : TextRow)
    (made : Filterset) : Type 0 where
  pub accepted : IsAccepted packages groups row (tree_of made.parsed)
  pub compiled : IsCompiled packages (tree_of made.parsed) made.compiled
  pub no_default : row.kind ≡ kinds.DefaultFilter → has_leaf is_default made.compiled ≡ false
  pub no_group : row.kind ≢ kinds.Test → has_leaf is_group made.compiled ≡ false

-- why the text is none
abbrev pub IsRefusedFor : List PackageMetadata → KnownGroups → TextRow → TextRefusal → Type 0
IsRefusedFor packages groups row (Found faults) = IsRefusedWith row.text row.kind packages groups faults.items
IsRefusedFor packages groups row (TooDeep place) = IsTooDeep most_levels row.text place

-- what is said where a text nests too deeply
abbrev pub deep_remark : ℕ → RemarkRow
deep_remark place = said Error (codes "TooDeep") (codes "nested more than 512 levels deep")
    (Some (codes "level 513 begins here")) None (Some (span place 1))

-- what is said of faults, of which these are kept
abbrev pub remarks_on : (List ParseSingleError → List ParseSingleError) → TextRefusal → List RemarkRow
remarks_on keep (Found faults) = map fault_remark (keep faults.items)
remarks_on keep (TooDeep place) = deep_remark place ∷ []

abbrev pub all_remarks : TextRefusal → List RemarkRow
all_remarks = remarks_on (λ all. all)

-- what is said of a text: nothing if it is a filterset of its kind over the packages and groups, else the faults that are kept
abbrev pub HasRemarks : (List ParseSingleError → List ParseSingleError) → List PackageMetadata → KnownGroups → TextRow → List RemarkRow → Type 0
HasRemarks keep packages groups row remarks =
    ((e : Tree SourceSpan) × IsAccepted packages groups row e × (remarks ≡ []))
    ⊎ ((faults : TextRefusal) × IsRefusedFor packages groups row faults × (remarks ≡ remarks_on keep faults))

-- all its faults
abbrev pub HasRefusal : List PackageMetadata → KnownGroups → TextRow → List RemarkRow → Type 0
HasRefusal = HasRemarks (λ all. all)

-- those that are not about names of which not enough is known
abbrev pub HasFaults : Names → TextRow → List RemarkRow → Type 0
HasFaults names = HasRemarks (filter (is_judged names)) (packages_of names.parse_context) names.known_groups

-- what is said of a text as the parser reads it: nothing if it reads as a tree, else its faults
abbrev pub HasReadingFaults : TextRow → List RemarkRow → Type 0
HasReadingFaults row remarks = ((e : Tree SourceSpan) × IsRead row.text e × (remarks ≡ []))
    ⊎ ((faults : TextRefusal) × IsUnreadFor row.text faults × (remarks ≡ all_remarks faults))
