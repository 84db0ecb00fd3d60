use Rattle.filterset_graph.specs.Packages.{ids}
use Rattle.filterset_graph.proofs.Rows.{PositionsAre-AllDiffer, LinksKnown-from_rows}
use Rattle.filterset_graph.proofs.graph.PackageGraph.packages.Goals as goal

pub returns-clause-distinct : goal.returns-clause-distinct
returns-clause-distinct c =
    rw (← c.self.view_is) (PositionsAre-AllDiffer c.self.inside.positions (ids c.self.inside.packages.items) c.self.invariant.placed)

pub returns-clause-known : goal.returns-clause-known
returns-clause-known c =
    rw (← c.self.view_is)
    (LinksKnown-from_rows c.self.inside.positions c.self.inside.packages.items c.self.inside.links.items
    c.self.invariant.placed c.self.invariant.size c.self.invariant.rows)
