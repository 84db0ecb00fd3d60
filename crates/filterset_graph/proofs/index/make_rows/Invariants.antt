use Rattle.std.proofs.Common.{◌≡◌, ℕ, vec_len, Vec, All, []}
use Rattle.std.specs.Global.{Global}
use Rattle.filterset_graph.proofs.index.make_rows.Given as goal

abbrev pub invariant-loop : goal.invariant-loop
invariant-loop l = (vec_len l.rows ≡ l.counter) × All (λ (row : Vec ℕ Global). row.items ≡ []) l.rows.items
