use Rattle.std.proofs.Common.{◌≡◌, length, arith, ap}
use Rattle.filterset_graph.specs.{Packages.ids, Index.PositionsAre, Index.AreRows}
use Rattle.filterset_graph.specs.Refusals.{IsRefusalOf}
use Rattle.filterset_graph.proofs.{Paths.rows_stay_below, Rows.PositionsAre-AllDiffer, Rows.LinksKnown-from_rows}
use Rattle.filterset_graph.proofs.Refused.{handed_on, IsTrueOf-from_ids, IsTrueOf-from_links}
use Rattle.filterset_graph.proofs.graph.PackageGraph.new.Goals as goal

pub returns-in_err-positions-clause-refused : goal.returns-in_err-positions-clause-refused
returns-in_err-positions-clause-refused c = grind (arith, handed_on, IsTrueOf-from_ids)

pub returns-in_err-links-clause-refused : goal.returns-in_err-links-clause-refused
returns-in_err-links-clause-refused c =
    handed_on c.from_residual-in_err-links.result c.in_err-links.field-0.0 (IsRefusalOf c.args.packages.items) c.from_residual-in_err-links.ensures.1
    (IsTrueOf-from_links c.in_ok-positions.positions c.args.packages.items c.in_err-links.field-0.0 (rw c.as_slice.ensures.value at c.in_ok-positions.ensures.ok) (rw c.as_slice-2.ensures.value at c.in_err-links.ensures.refused))

pub reverse-requires : goal.reverse-requires
reverse-requires c =
    let placed : PositionsAre c.in_ok-positions.positions (ids c.args.packages.items) = rw (← c.as_slice.ensures.value) c.in_ok-positions.ensures.ok in
    let rows : AreRows c.in_ok-positions.positions c.args.packages.items c.in_ok-links.links.items = rw (← c.as_slice-2.ensures.value) c.in_ok-links.ensures.ok in
    let size : length c.in_ok-links.links.items ≡ length c.args.packages.items = omega (arith, c.in_ok-links.ensures.len, c.in_ok-links.links.ok.0, ap length c.as_slice-2.ensures.value) in
    rw c.as_slice-3.ensures.value (rows_stay_below c.args.packages.items c.in_ok-positions.positions c.in_ok-links.links.items placed rows size)

pub invariant_of-result : goal.invariant_of-result
invariant_of-result c =
    let placed : PositionsAre c.in_ok-positions.positions (ids c.args.packages.items) = rw (← c.as_slice.ensures.value) c.in_ok-positions.ensures.ok in
    let rows : AreRows c.in_ok-positions.positions c.args.packages.items c.in_ok-links.links.items = rw (← c.as_slice-2.ensures.value) c.in_ok-links.ensures.ok in
    let size : length c.in_ok-links.links.items ≡ length c.args.packages.items = omega (arith, c.in_ok-links.ensures.len, c.in_ok-links.links.ok.0, ap length c.as_slice-2.ensures.value) in
    record {
      placed = placed;
      size = size;
      rows = rows;
      back_size = omega (arith, size, c.in_ok-linked_by.ensures.len, c.in_ok-linked_by.linked_by.ok.0, ap length c.as_slice-3.ensures.value);
      back_edges = rw (← c.as_slice-3.ensures.value) c.in_ok-linked_by.ensures.edges;
    }

pub returns-clause-sound : goal.returns-clause-sound
returns-clause-sound c =
    let placed : PositionsAre c.in_ok-positions.positions (ids c.args.packages.items) = rw (← c.as_slice.ensures.value) c.in_ok-positions.ensures.ok in
    let rows : AreRows c.in_ok-positions.positions c.args.packages.items c.in_ok-links.links.items = rw (← c.as_slice-2.ensures.value) c.in_ok-links.ensures.ok in
    let size : length c.in_ok-links.links.items ≡ length c.args.packages.items = omega (arith, c.in_ok-links.ensures.len, c.in_ok-links.links.ok.0, ap length c.as_slice-2.ensures.value) in
    (PositionsAre-AllDiffer c.in_ok-positions.positions (ids c.args.packages.items) placed, LinksKnown-from_rows c.in_ok-positions.positions c.args.packages.items c.in_ok-links.links.items placed size rows)
