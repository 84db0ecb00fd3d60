use Rattle.std.proofs.Common.{◌≡◌, take, string_bytes}
use Rattle.std.specs.List.{flat_map}
use Rattle.filterset_deciding.specs.Texts.{part_of}
use Rattle.filterset_deciding.proofs.texts.join_parts.Given as goal

abbrev pub invariant-loop-demand : goal.invariant-loop-demand
invariant-loop-demand l = string_bytes l.text ≡ flat_map (part_of l.c) (take l.demand-index l.demands)
