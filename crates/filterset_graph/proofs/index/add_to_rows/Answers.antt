use Rattle.std.proofs.Common.{Vec, [], ◌∷◌, ◌++◌, ◌∙◌, ap, sym, ◌<◌, ℕ, length, get_or, arith}
use Rattle.std.specs.Global.{Global}
use Rattle.std.proofs.lemmas.List.{take_all}
use Rattle.filterset_graph.proofs.Rows.{AddsEdges-none, AddsEdges-more}
use Rattle.filterset_graph.proofs.index.add_to_rows.Goals as goal

pub loop-position-init : goal.loop-position-init
loop-position-init c = AddsEdges-none c.args.rows.now c.args.from

pub loop-position-preserved : goal.loop-position-preserved
loop-position-preserved c =
    let within : get_or c.args.positions.now c.loop-position.position-index 0 < length c.loop-position.rows = omega (arith, c.requires c.loop-position.position-index 0 c.loop-position-test.true) in
    AddsEdges-more c.args.rows.now c.loop-position.rows c.args.positions.now c.loop-position.position-index c.args.from c.index-rows-position.result c.push.new.self c.loop-position-test.true within c.index-rows-position.is (c.in_ok-push.ensures.items ∙ ap (λ (v : Vec ℕ Global). v.items ++ c.args.from ∷ []) (sym c.index-rows-position.is)) c.loop-position.invariant

pub returns : goal.returns
returns c = rw (take_all c.loop-position.position-index c.args.positions.now c.loop-position-test.false) at c.loop-position.invariant
