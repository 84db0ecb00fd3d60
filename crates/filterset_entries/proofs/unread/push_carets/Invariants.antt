use Rattle.std.proofs.Common.{◌≡◌, ◌++◌, map, option_map, string_bytes, take}
use Rattle.filterset_display.specs.Remarks.{remark_row}
use Rattle.filterset_entries.specs.{Placements.placement_of, Unread.caret_remark, Unread.found_span}
use Rattle.filterset_entries.proofs.unread.push_carets.Given as goal

-- the operators so far have their remarks
abbrev pub invariant-loop-span : goal.invariant-loop-span
invariant-loop-span l = map remark_row l.remarks.items ≡ map remark_row l.initial.remarks.items
    ++ map (λ s. caret_remark (string_bytes l.entry.origin) (found_span (option_map placement_of l.entry.place) s)) (take l.span-index l.span-items)
