use Rattle.std.proofs.Common.{◌≡◌, ◌++◌, string_bytes, take}
use Rattle.std.specs.List.{flat_map}
use Rattle.filterset_verdicts.specs.VerdictText.{demand_line}
use Rattle.filterset_verdicts.proofs.text.doubt_text.Given as goal

-- the lines so far
abbrev pub invariant-loop-demand : goal.invariant-loop-demand
invariant-loop-demand l =
    string_bytes l.text ≡ string_bytes l.initial.text ++ flat_map (demand_line l.doubt.field) (take l.demand-index l.doubt.demands.items)
