use Rattle.std.proofs.Common.{◌≡◌, ◌==◌, filter, length, map, not, refl, rules}
use Rattle.filterset_grammar.specs.Tree.{tree_leaves}
use Rattle.filterset_language.specs.Views.{leaf_of, tree_of}
use Rattle.filterset_offers.specs.{Candidates.row_of, Marks.has_some, Marks.is_hiding, Marks.is_marked}
use Rattle.filterset_offers.proofs.StandingLemmas.{seen-some}
use Rattle.filterset_offers.proofs.marks.shows.Goals as goal

pub returns : goal.returns
returns c =
    let e = tree_of c.args.tree.now in
    let row = row_of c.args.candidate.now in
    let mark = is_marked c.args.kind row c.args.at in
    let hide = is_hiding row.mark c.args.at in
    let marked : map (λ leaf. leaf_of leaf.now) c.in_ok-marked.marked.items ≡ filter mark (tree_leaves e) = c.in_ok-marked.ensures mark (search rules) in
    let hiding : map (λ leaf. leaf_of leaf.now) c.in_ok-hiding.hiding.items ≡ filter hide (tree_leaves e) = c.in_ok-hiding.ensures hide (search rules) in
    let no_mark : c.is_empty-is_marked.result ≡ (length c.in_ok-marked.marked.items == 0) = search rules in
    let no_hide : c.is_empty-is_hidden.result ≡ (length c.in_ok-hiding.hiding.items == 0) = search rules in
    let is_marked : not c.is_empty-is_marked.result ≡ has_some mark e =
    seen-some (λ leaf. leaf_of leaf.now) c.in_ok-marked.marked.items (filter mark (tree_leaves e)) _ c.is_empty-is_marked.result marked refl no_mark in
    let is_hidden : not c.is_empty-is_hidden.result ≡ has_some hide e =
    seen-some (λ leaf. leaf_of leaf.now) c.in_ok-hiding.hiding.items (filter hide (tree_leaves e)) _ c.is_empty-is_hidden.result hiding refl no_hide in
    search rules
