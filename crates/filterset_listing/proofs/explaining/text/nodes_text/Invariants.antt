use Rattle.std.proofs.Common.{◌≡◌, string_bytes, take}
use Rattle.std.specs.List.{flat_map}
use Rattle.filterset_listing.specs.ExplanationText.{explained_line}
use Rattle.filterset_listing.proofs.explaining.text.nodes_text.Given as goal

-- the nodes so far were written
abbrev pub invariant-loop-explained : goal.invariant-loop-explained
invariant-loop-explained l = string_bytes l.text ≡ flat_map explained_line (take l.explained-index l.nodes)
