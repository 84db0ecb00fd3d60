-- Filtersets of documents.
use Rattle.std.proofs.Common.{◌≡◌, Global, List, true}
use Rattle.std.specs.{Borrow.Bor, Prelude.Vec}
use Rattle.filterset_entries.specs.{Checked.TextRow, Entries.line_rows, Entries.rows_in}
use Rattle.filterset_entries.specs.declared.entries.ConfiguredTexts.{ConfiguredTexts}
use Rattle.filterset_display.specs.declared.source.Source.{Source}
use Rattle.filterset_faults.specs.declared.kind.FiltersetKind.TheVariants as kinds
use Rattle.filterset_configuration.specs.declared.places.Places.{Places}
use Rattle.filterset_sources.specs.declared.configuration.ConfiguredFilterset.{ConfiguredFilterset}
use Rattle.filterset_documents.specs.{Contents.AreRowsOf, Filtersets.AreTexts}
use Rattle.filterset_documents.specs.declared.content.Filtersets.TheVariants.{Configured, Lines}

pub lines_are : (file : Source) (listed : Bor Source) (rows : List TextRow) → rows ≡ line_rows true listed kinds.Test → listed.now ≡ file
    → AreRowsOf (Lines file) rows
lines_are file listed rows are same = (listed, same, are)

pub texts_are : (file : Source) (filtersets : Vec ConfiguredFilterset Global) (places : Places) (texts : ConfiguredTexts) (rows : List TextRow)
    → rows ≡ rows_in texts → AreTexts file filtersets.items places texts → AreRowsOf (Configured file filtersets places) rows
texts_are file filtersets places texts rows are same = (texts, same, are)
