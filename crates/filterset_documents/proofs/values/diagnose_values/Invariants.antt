use Rattle.std.proofs.Common.{map, take}
use Rattle.std.specs.List.{AllZip}
use Rattle.serde_json.specs.View.{view}
use Rattle.filterset_documents.specs.Diagnostics.{IsValueWarning}
use Rattle.filterset_documents.proofs.values.diagnose_values.Given as goal

-- the values so far have their warnings
abbrev pub invariant-loop-wrong : goal.invariant-loop-wrong
invariant-loop-wrong l =
    AllZip (IsValueWarning l.shown.encoding l.shown.lines.text.now) (take l.wrong-index l.wrong-items) (map view l.values.items)
