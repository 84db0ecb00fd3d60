use Rattle.std.proofs.Common.{◌≡◌, ◌++◌, map, take}
use Rattle.filterset_display.specs.Remarks.{remark_row}
use Rattle.filterset_listing.specs.Finding.{unmatched_of}
use Rattle.filterset_asking.specs.Warnings.{unmatched_remark}
use Rattle.filterset_asking.proofs.hints.add_unmatched.Given as goal

-- the remarks on the predicates so far were added
abbrev pub invariant-loop-predicate : goal.invariant-loop-predicate
invariant-loop-predicate l = map remark_row l.remarks.items
    ≡ map remark_row l.initial.remarks.items ++ map unmatched_remark (unmatched_of (take l.predicate-index l.predicates))
