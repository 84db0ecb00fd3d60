-- Warnings of predicates that match nothing in a workspace.
use Rattle.std.specs.Prelude.{◌≡◌, ◌↔◌, ◌⊎◌, ◌++◌, ℕ, Bool, true, false, IsTrue, List, [], ◌∷◌, MatchBool, MatchOption, Option, codes, filter, is_some}
use Rattle.std.specs.List.{count_by}
use Rattle.serde_json.specs.Data.{Data}
use Rattle.filterset_entries.specs.{Checked.TextRow, Placements.Placement}
use Rattle.filterset_documents.specs.Contents.{ContentRow, Holds}
use Rattle.filterset_documents.specs.Diagnostics.{DiagnosesContent, IsDiagnostic, IsRefusalAt}
use Rattle.filterset_documents.specs.{Filtersets.OfTree, Filtersets.is_list, Joins.Joins}
use Rattle.filterset_display.specs.declared.remark.Severity.TheVariants.{Warning}
use Rattle.filterset_display.specs.{Documents.DocumentRow, Positions.Text, declared.positions.Encoding.Encoding}
use Rattle.filterset_faults.specs.declared.span.SourceSpan.{SourceSpan}
use Rattle.filterset_grammar.specs.Tree.{Leaf, Matching, tree_leaves}
use Rattle.filterset_grammar.specs.declared.predicate.Predicate.TheVariants.{Test}
use Rattle.filterset_listing.specs.Unmatched.{Unmatched, unmatched_message}
use Rattle.filterset_offers.specs.{Something.MatchesSomething, Workspaces.WorkspaceRow}
use Rattle.filterset_sources.specs.Configurations.{RefusesConfiguration}
use Rattle.filterset_sources.specs.declared.list.SuiteStatus.{SuiteStatus, TheVariants.Listed, TheVariants.Skipped}
use Rattle.filterset_sources.specs.declared.refusal.SourceRefusal.{SourceRefusal}
use Rattle.filterset_offers.specs.Hover.{leaf_part}

-- ---- predicates

-- nextest did not list the tests of a binary
abbrev pub is_skipped : SuiteStatus → Bool
is_skipped Listed = false
is_skipped Skipped = true

-- how many of the skipped binaries may have a test that the predicate matches
abbrev pub skipped_for : {S : Type 0} → ℕ → Leaf S → ℕ
skipped_for skipped (Matching Test matcher span) = skipped
skipped_for skipped leaf = 0

-- the warning of a predicate that matches nothing, at its span in the file
abbrev pub WarnsOfLeaf : Encoding → Text → Option Placement → Unmatched → List Data → Type 0
WarnsOfLeaf encoding text place found ds = MatchOption (leaf_part place found.0) (ds ≡ []) (λ part. (d : Data)
    × IsDiagnostic encoding text Warning part.span (codes "NoTestMatch") (unmatched_message found) d × (ds ≡ d ∷ []))

abbrev pub LeafWarnings : WorkspaceRow → Encoding → Text → Option Placement → Leaf SourceSpan → List Data → Type 0
LeafWarnings w encoding text place leaf ds = (matches : Bool) × (IsTrue matches ↔ MatchesSomething w leaf)
    × MatchBool matches (ds ≡ [])
    (WarnsOfLeaf encoding text place (leaf, skipped_for (count_by (λ suite. is_skipped suite.status) w.suites) leaf) ds)

-- ---- filtersets

-- the warnings of the predicates with a span in the file, of the tree that a filterset reads as, one after the other; none if it
-- reads as none
abbrev pub RowWarnings : WorkspaceRow → Encoding → Text → TextRow → List Data → Type 0
RowWarnings w encoding text row =
    OfTree row.text (λ e ds. Joins (LeafWarnings w encoding text row.place)
    (filter (λ leaf. is_some (leaf_part row.place leaf)) (tree_leaves e)) ds) []

-- those of filtersets, one after the other, where a workspace is known
abbrev pub RowsWarnings : Option WorkspaceRow → Encoding → Text → List TextRow → List Data → Type 0
RowsWarnings w encoding text rows ds =
    MatchOption w (ds ≡ []) (λ known. Joins (RowWarnings known encoding text) rows ds)

-- ---- documents

-- the diagnostics of what a document holds, and then the warnings, where a workspace is known
abbrev pub DiagnosesContentIn : Option WorkspaceRow → Encoding → Text → ContentRow → List Data → Type 0
DiagnosesContentIn w encoding text content ds = (own warnings : List Data) × DiagnosesContent encoding text content own
    × RowsWarnings w encoding text content.rows warnings × (ds ≡ own ++ warnings)

-- the diagnostics of a document: those of what it holds, or that of a text that is no configuration
abbrev pub DiagnosesIn : Option WorkspaceRow → Encoding → DocumentRow → List Data → Type 0
DiagnosesIn w encoding document ds =
    ((content : ContentRow) × Holds (is_list document.language) document.text content
    × DiagnosesContentIn w encoding document.text content ds)
    ⊎ ((refusal : SourceRefusal) × (d : Data) × (is_list document.language ≡ false) × RefusesConfiguration document.text refusal
    × IsRefusalAt encoding document.text refusal d × (ds ≡ d ∷ []))
