use Rattle.std.proofs.{Common.None, Common.inl, Common.inr, Common.subst, Common.sym, lemmas.Result.on_ok_weaker}
use Rattle.filterset_language.specs.Views.{leaf_of, tree_of}
use Rattle.filterset_listing.specs.Columns.{first_of, second_of, values_of}
use Rattle.filterset_listing.specs.Explaining.{AddsNode, Explains, shared_value}
use Rattle.filterset_listing.proofs.NodeLemmas.{IsOfTwo, leaf_explained, not_explained, operands_explained}
use Rattle.filterset_listing.proofs.explaining.+push_nodes.Goals.{in-Union, in-Union-2}
use Rattle.filterset_listing.proofs.explaining.+push_nodes.Goals as goal

pub returns-in_ok-push_node-in-Not : goal.returns-in_ok-push_node-in-Not
returns-in_ok-push_node-in-Not t c =
    let packages = c.args.graph.now in
    let depth = c.args.depth in
    let columns = c.args.columns.now in
    let before = c.args.nodes.now.items in
    let mid = c.push_node.new.nodes.items in
    let after = c.push_nodes.new.nodes.items in
    let e = tree_of c.in-Not.operand.now in
    let adds = subst (λ t. AddsNode depth t (shared_value (values_of columns)) None before mid) c.in-Not.ensures.0 c.in_ok-push_node-in-Not.ensures in
    on_ok_weaker c.push_nodes.result (λ operand. subst (λ t. Explains packages depth t columns before after) (sym c.in-Not.ensures.0)
    (not_explained packages depth columns before mid c.in-Not.field-0 e after adds
    (subst (λ d. Explains packages d e (first_of columns) mid after) c.in_ok-below.ensures (subst (λ s. Explains packages c.in_ok-below.below e s mid after) c.first.ensures operand))))
    c.push_nodes.ensures

pub returns-in_ok-push_nodes-in-Union : goal.returns-in_ok-push_nodes-in-Union
returns-in_ok-push_nodes-in-Union t c =
    let packages = c.args.graph.now in
    let depth = c.args.depth in
    let below = c.in_ok-below.below in
    let columns = c.args.columns.now in
    let before = c.args.nodes.now.items in
    let mid = c.push_node-in-Union.new.nodes.items in
    let late = c.push_nodes-in-Union.new.nodes.items in
    let after = c.push_nodes-in-Union-2.new.nodes.items in
    let a = tree_of c.in-Union-1.left.now in
    let b = tree_of c.in-Union-1.right.now in
    let is : IsOfTwo (tree_of c.args.node.now) a b = elim c.in-Union-1.branch [
      | in-Union w ↦ let is = rw (← w.left-is, ← w.right-is) at w.in-Union.ensures.0 in inl (_, is)
      | in-Union-2 w ↦ let is = rw (← w.left-is, ← w.right-is) at w.in-Union.ensures.0 in inr (_, is)
    ] in
    let left = subst (λ d. Explains packages d a (first_of columns) mid late) c.in_ok-below.ensures (subst (λ s. Explains packages below a s mid late) c.first-in-Union.ensures c.in_ok-push_nodes-in-Union.ensures) in
    on_ok_weaker c.push_nodes-in-Union-2.result (λ right. operands_explained packages depth columns before mid (tree_of c.args.node.now) a b late after is c.in_ok-push_node-in-Union.ensures left
    (subst (λ d. Explains packages d b (second_of columns) late after) c.in_ok-below.ensures (subst (λ s. Explains packages below b s late after) c.second.ensures right)))
    c.push_nodes-in-Union-2.ensures

pub returns-in_ok-packages-in-Set : goal.returns-in_ok-packages-in-Set
returns-in_ok-packages-in-Set t c =
    let packages = c.args.graph.now in
    let depth = c.args.depth in
    let columns = c.args.columns.now in
    let before = c.args.nodes.now.items in
    let after = c.push_node-in-Set.new.nodes.items in
    let leaf = leaf_of c.in-Set.field-0.now in
    let named = c.in_ok-packages-in-Set.packages in
    on_ok_weaker c.push_node-in-Set.result (λ adds. subst (λ t. Explains packages depth t columns before after) (sym c.in-Set.ensures)
    (leaf_explained packages depth columns before after leaf named (c.in_ok-packages-in-Set.ensures leaf)
    (subst (λ t. AddsNode depth t (shared_value (values_of columns)) named before after) c.in-Set.ensures adds)))
    c.push_node-in-Set.ensures
