use Rattle.std.proofs.Common.{◌≡◌, ◌++◌, map, take}
use Rattle.filterset_display.specs.Remarks.{remark_row}
use Rattle.filterset_listing.specs.Finding.{found_of}
use Rattle.filterset_asking.specs.Warnings.{needless_remark}
use Rattle.filterset_asking.proofs.hints.add_needless.Given as goal

-- the remarks on the operands so far were added
abbrev pub invariant-loop-operand : goal.invariant-loop-operand
invariant-loop-operand l = map remark_row l.remarks.items
    ≡ map remark_row l.initial.remarks.items ++ map needless_remark (found_of (take l.operand-index l.operands))
