use Rattle.std.proofs.Common.{◌∙◌, sym, ap, length}
use Rattle.filterset_graph.proofs.Paths.{links_stay_below, back_stays_below, IfOk-MarksReaching}
use Rattle.filterset_graph.proofs.graph.PackageGraph.mark_reaching.Goals as goal

-- both rows stay below, so that what tells them apart is the clause on what is marked
pub mark_reached-requires-clause-edges : goal.mark_reached-requires-clause-edges
mark_reached-requires-clause-edges c =
    rw c.as_slice.ensures.value (search (links_stay_below c.self.invariant, back_stays_below c.self.invariant))

pub returns-clause-exact : goal.returns-clause-exact
returns-clause-exact c =
    rw (← c.self.view_is) (IfOk-MarksReaching c.self.invariant c.args.ends.now c.mark_reached.result (c.requires ∙ ap length (sym c.self.view_is)) (rw c.as_slice.ensures.value at c.mark_reached.ensures.exact))
