-- Which tests a runner runs under a setting.
use Rattle.std.specs.{Prelude.List, Prelude.Bool, List.AllZip}
use Rattle.filterset_faults.specs.declared.span.SourceSpan.{SourceSpan}
use Rattle.filterset_grammar.specs.Tree.{Tree}
use Rattle.filterset_listing.specs.{Groups.Says, Listing.IsBinaryPicks, Selection.RunCanPick, Selection.RunPicks}
use Rattle.filterset_listing.specs.declared.{binary.AskedBinary.AskedBinary, listing.BinaryPicks.BinaryPicks}
use Rattle.filterset_answers.specs.Compiled.{Basis}
use Rattle.filterset_entries.specs.declared.setting.Setting.{Setting}

-- of each binary the tests that the default filter picks, unless it is ignored, and one of the trees, if there are any
abbrev pub ArePicks : (setting : Setting) → Bool → List AskedBinary → Basis setting → List (Tree SourceSpan) → List BinaryPicks → Type 0
ArePicks setting ignores_default binaries basis trees all = AllZip (IsBinaryPicks (Says basis.default basis.overrides
    (RunPicks setting.graph.now ignores_default basis.default basis.default_tree trees))
    (RunCanPick setting.graph.now ignores_default basis.default basis.default_tree trees)) binaries all
