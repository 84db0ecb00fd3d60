use Rattle.std.proofs.Common.{take}
use Rattle.std.specs.List.{AllZip}
use Rattle.filterset_expression.specs.Contexts.{default_of}
use Rattle.filterset_listing.specs.{Comparing.IsBinaryDifference, Pickers.expr_picker}
use Rattle.filterset_listing.proofs.comparing.compare.Given as goal

-- the binaries so far are compared
abbrev pub invariant-loop-binary : goal.invariant-loop-binary
invariant-loop-binary l =
    AllZip (IsBinaryDifference (expr_picker (default_of l.context) l.overrides l.fn.first) (expr_picker (default_of l.context) l.overrides l.fn.second))
    (take l.binary-index l.binaries) l.all.items
