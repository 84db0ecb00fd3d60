use Rattle.std.proofs.Common.{Vec, drop, ◌≡◌, ◌<◌, ℕ, Some, length, get_or, arith, Contains, sym, ◌∙◌, ap}
use Rattle.std.proofs.lemmas.{List.take_at, List.Elements.Contains-get_or, Option.slice_get-get_or}
use Rattle.std.specs.{Prelude.slice_get, declared.alloc.Global.Global}
use Rattle.filterset_graph.proofs.Steps.{Spreads-pending_within, Spreads-step, Spreads-done}
use Rattle.filterset_graph.proofs.search.mark_reached.Goals as goal

pub bounds-edges-position : goal.bounds-edges-position
bounds-edges-position c =
    Spreads-pending_within c.args.edges.now c.args.starts.now c.loop-position.marks.items c.loop-position.pending.items c.pop.new.self.items c.in-Some.position c.in-Some.ensures.items c.loop-position.invariant

pub offset_bounds-edges-position : goal.offset_bounds-edges-position
offset_bounds-edges-position c =
    let within : c.in-Some.position < length c.args.edges.now = Spreads-pending_within c.args.edges.now c.args.starts.now c.loop-position.marks.items c.loop-position.pending.items c.pop.new.self.items c.in-Some.position c.in-Some.ensures.items c.loop-position.invariant in
    omega arith

pub mark_all-requires : goal.mark_all-requires
mark_all-requires c = λ k d h.
    let row : Vec ℕ Global = c.index-edges-position.result in
    let within : c.in-Some.position < length c.args.edges.now = Spreads-pending_within c.args.edges.now c.args.starts.now c.loop-position.marks.items c.loop-position.pending.items c.pop.new.self.items c.in-Some.position c.in-Some.ensures.items c.loop-position.invariant in
    let here : slice_get c.args.edges.now c.in-Some.position ≡ Some row = slice_get-get_or c.args.edges.now c.in-Some.position row within ∙ ap Some (sym c.index-edges-position.is) in
    let named : Contains row.items (get_or row.items k d) = Contains-get_or row.items k d (omega (arith, h, ap length c.as_slice.ensures.value)) in
    let below : get_or row.items k d < length c.args.edges.now = c.requires.edges c.in-Some.position (get_or row.items k d) (row, here, named) in
    rw (c.as_slice.ensures.value, c.deref_mut.ensures.value) (omega (arith, below, c.loop-position.invariant.size))

pub loop-position-preserved : goal.loop-position-preserved
loop-position-preserved c =
    let row : Vec ℕ Global = c.index-edges-position.result in
    let within : c.in-Some.position < length c.args.edges.now = Spreads-pending_within c.args.edges.now c.args.starts.now c.loop-position.marks.items c.loop-position.pending.items c.pop.new.self.items c.in-Some.position c.in-Some.ensures.items c.loop-position.invariant in
    let here : slice_get c.args.edges.now c.in-Some.position ≡ Some row = slice_get-get_or c.args.edges.now c.in-Some.position row within ∙ ap Some (sym c.index-edges-position.is) in
    let done = rw (c.as_slice.ensures.value, c.deref_mut.ensures.value) at c.in_ok-mark_all.ensures in
    let size : c.loop-position.marks.len ≡ length c.mark_all.new.marks = omega (arith, done.size, c.loop-position.marks.ok.0) in
    rw (take_at c.mark_all.new.marks (drop (length c.mark_all.new.marks) c.loop-position.marks.items) c.loop-position.marks.len (sym size))
    (Spreads-step c.args.edges.now c.args.starts.now c.loop-position.marks.items c.mark_all.new.marks c.loop-position.pending.items c.pop.new.self.items c.mark_all.new.pending.items c.in-Some.position row c.in-Some.ensures.items here c.loop-position.invariant done)

pub returns-clause-exact : goal.returns-clause-exact
returns-clause-exact c =
    Spreads-done c.args.edges.now c.args.starts.now c.loop-position.marks.items c.loop-position.pending.items (omega (arith, c.in_default.ensures.cases.0, c.loop-position.pending.ok.0)) c.loop-position.invariant
