use Rattle.std.proofs.Common.{string_bytes, take}
use Rattle.filterset_json.specs.Pieces.{Pieces}
use Rattle.filterset_asking.specs.Values.{IsValuePiece}
use Rattle.filterset_asking.proofs.values.add_values.Given as goal

-- the values so far were written
abbrev pub invariant-loop-value : goal.invariant-loop-value
invariant-loop-value l =
    Pieces (IsValuePiece l.writer.form l.writer.file) (take l.value-index l.values) (string_bytes l.text)
