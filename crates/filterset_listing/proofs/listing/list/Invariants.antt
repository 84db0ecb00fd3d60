use Rattle.std.proofs.Common.{take}
use Rattle.std.specs.List.{AllZip}
use Rattle.filterset_expression.specs.Contexts.{default_of}
use Rattle.filterset_listing.specs.{Asking.ExprCanPick, Asking.ExprPicks, Groups.Says, Listing.IsBinaryPicks}
use Rattle.filterset_listing.proofs.listing.list.Given as goal

-- the binaries so far have their picks
abbrev pub invariant-loop-binary : goal.invariant-loop-binary
invariant-loop-binary l =
    AllZip (IsBinaryPicks (Says (default_of l.context) l.overrides (ExprPicks (default_of l.context) l.expr)) (ExprCanPick (default_of l.context) l.expr))
    (take l.binary-index l.binaries) l.all.items
