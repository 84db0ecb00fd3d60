use Rattle.std.proofs.Common.{drop, map}
use Rattle.filterset_entries.specs.Checked.{text_row}
use Rattle.filterset_server.specs.Becoming.{AreRewritten}
use Rattle.filterset_server.proofs.becoming.are_rewritten.Given as goal

-- the filtersets are the same if and only if those that are left are
abbrev pub invariant-loop-i : goal.invariant-loop-i
invariant-loop-i l = record {
  left : AreRewritten (map text_row (drop l.i l.entries)) (map (λ t. t.now) (drop l.i l.texts)) (map text_row (drop l.i l.others))
      → AreRewritten (map text_row l.entries) (map (λ t. t.now) l.texts) (map text_row l.others);
  whole : AreRewritten (map text_row l.entries) (map (λ t. t.now) l.texts) (map text_row l.others)
      → AreRewritten (map text_row (drop l.i l.entries)) (map (λ t. t.now) (drop l.i l.texts)) (map text_row (drop l.i l.others));
}
