use Rattle.std.proofs.Common.{length, arith, ◌<◌}
use Rattle.filterset_graph.proofs.Paths.{no_position, one_position_within, package_of_position}
use Rattle.filterset_graph.proofs.graph.PackageGraph.metadata.Goals as goal

pub returns-in_err-position : goal.returns-in_err-position
returns-in_err-position c = rw c.from_residual.ensures (no_position c.args.self.now c.args.id.now c.in_err-position.ensures)

pub index-requires : goal.index-requires
index-requires c =
    let within : c.in_ok-position.position < length c.args.self.now = one_position_within c.args.self.now c.args.id.now c.in_ok-position.position c.in_ok-position.ensures in
    let inside : c.in_ok-position.position < length c.self.inside.packages.items = rw c.self.view_is within in
    omega (arith, inside, c.self.inside.packages.ok.0)

pub returns : goal.returns
returns c = package_of_position c.args.self.now c.args.id.now c.in_ok-position.position c.index.result.now c.in_ok-position.ensures (rw (← c.self.view_is) c.index.ensures)
