use Rattle.std.proofs.Common.{rules, refl, sym, ◌<◌, ◌≡◌, length, None, Some, ◌∙◌}
use Rattle.filterset_graph.specs.Index.{index_of}
use Rattle.filterset_sources.specs.Metadata.{HasLinksOf}
use Rattle.filterset_sources.proofs.GraphLemmas.{linked_push, links-found, links-of_node, links-of_none}
use Rattle.filterset_sources.proofs.metadata.link.Goals as goal
use Rattle.filterset_sources.proofs.metadata.link.Goals.{in-Some-get+in_ok-links-in-Some-get, in-None-get}

pub offset_bounds-nodes-at : goal.offset_bounds-nodes-at
offset_bounds-nodes-at c =
    let found : index_of c.args.positions.now c.in-Some.package.id ≡ Some c.in-Some-get.at.now = sym c.in-Some-get.ensures.value in
    let lt : c.in-Some-get.at.now < length c.args.nodes.now = links-found c.args.positions.now c.args.nodes.now c.in-Some.package.id c.in-Some-get.at.now c.requires found in
    search (rules, lt)

pub bounds-nodes-at : goal.bounds-nodes-at
bounds-nodes-at c =
    let found : index_of c.args.positions.now c.in-Some.package.id ≡ Some c.in-Some-get.at.now = sym c.in-Some-get.ensures.value in
    links-found c.args.positions.now c.args.nodes.now c.in-Some.package.id c.in-Some-get.at.now c.requires found

pub loop-package-preserved : goal.loop-package-preserved
loop-package-preserved c =
    let positions = c.args.positions.now in
    let nodes = c.args.nodes.now in
    let id = c.in-Some.package.id in
    let links : HasLinksOf nodes id c.match-get.links.items = elim c.match-get.branch [
      | in-Some-get+in_ok-links-in-Some-get w ↦
          let found : index_of positions id ≡ Some w.in-Some-get.at.now = sym w.in-Some-get.ensures.value in
          rw w.links-is (links-of_node positions nodes id w.in-Some-get.at.now w.index-nodes-at.result w.in_ok-links-in-Some-get.links.items c.requires found w.index-nodes-at.is w.in_ok-links-in-Some-get.ensures)
      | in-None-get w ↦
          let none : index_of positions id ≡ None = sym w.in-None-get.ensures.value in
          rw w.links-is (links-of_none positions nodes id w.new-links.result.items c.requires none w.new-links.ensures.items)
    ] in
    rw c.in_ok-push.ensures.items
    (linked_push c.args.members.now nodes c.loop-package.all.items c.loop-package.yielded c.in-Some.package _ c.loop-package.invariant refl
    (((λ yes. sym c.is_known.ensures ∙ yes), (λ found. c.is_known.ensures ∙ found)), links))
