use Rattle.std.proofs.Common.{Vec, drop, ◌≡◌, ◌<◌, ℕ, Some, length, get_or, arith, sym, ◌∙◌, ap}
use Rattle.std.specs.{Prelude.slice_get, Global.Global}
use Rattle.std.proofs.lemmas.{List.take_at, List.Elements.Contains-get_or, Option.slice_get-get_or}
use Rattle.filterset_graph.specs.Index.{AddsEdges}
use Rattle.filterset_graph.proofs.Rows.{ReversedBelow-none, ReversedBelow-more, ReversedBelow-all}
use Rattle.filterset_graph.proofs.index.reverse.Goals as goal

pub loop-from-init : goal.loop-from-init
loop-from-init c = (c.in_ok-back.ensures.len, ReversedBelow-none c.args.links.now c.in_ok-back.back.items c.in_ok-back.ensures.empty)

pub add_to_rows-requires : goal.add_to_rows-requires
add_to_rows-requires c = λ k d h.
    let row : Vec ℕ Global = c.index-links-from.result in
    let here : slice_get c.args.links.now c.loop-from.from ≡ Some row = slice_get-get_or c.args.links.now c.loop-from.from row c.loop-from-test.true ∙ ap Some (sym c.index-links-from.is) in
    let in_row : k < length row.items = omega (arith, h, ap length c.as_slice.ensures.value) in
    let below : get_or row.items k d < length c.args.links.now = c.requires c.loop-from.from (get_or row.items k d) (row, here, Contains-get_or row.items k d in_row) in
    rw (c.as_slice.ensures.value, c.deref_mut.ensures.value) (omega (arith, below, c.loop-from.invariant.0, c.loop-from.back.ok.0))

pub loop-from-preserved : goal.loop-from-preserved
loop-from-preserved c =
    let row : Vec ℕ Global = c.index-links-from.result in
    let here : slice_get c.args.links.now c.loop-from.from ≡ Some row = slice_get-get_or c.args.links.now c.loop-from.from row c.loop-from-test.true ∙ ap Some (sym c.index-links-from.is) in
    let added : AddsEdges c.loop-from.back.items row.items c.loop-from.from c.add_to_rows.new.rows = rw (← c.as_slice.ensures.value, ← c.deref_mut.ensures.value) c.in_ok-add_to_rows.ensures in
    let size : c.loop-from.back.len ≡ length c.add_to_rows.new.rows = omega (arith, c.add_to_rows.auto.rows, c.deref_mut.ensures.len) in (
      c.loop-from.invariant.0,
      rw (take_at c.add_to_rows.new.rows (drop (length c.add_to_rows.new.rows) c.loop-from.back.items) c.loop-from.back.len (sym size))
          (ReversedBelow-more c.args.links.now c.loop-from.back.items c.add_to_rows.new.rows c.loop-from.from row here c.loop-from.invariant.1 added),
    )

pub returns-clause-edges : goal.returns-clause-edges
returns-clause-edges c = ReversedBelow-all c.args.links.now c.loop-from.back.items c.loop-from.from c.loop-from-test.false c.loop-from.invariant.1
