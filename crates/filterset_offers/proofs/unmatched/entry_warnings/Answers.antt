use Rattle.std.proofs.Common.{rules, arith, ◌≡◌, ◌<◌, ◌∙◌, List, ap, inl, length, get_or, map, option_map, subst}
use Rattle.std.proofs.lemmas.List.{take_all}
use Rattle.std.specs.{Borrow.Bor, Prelude.is_some}
use Rattle.serde_json.specs.View.{view}
use Rattle.filterset_entries.specs.Placements.{placement_of}
use Rattle.filterset_documents.specs.Joins.{Joins, no_parts}
use Rattle.filterset_documents.proofs.JoinLemmas.{Joins-more}
use Rattle.filterset_faults.specs.declared.span.SourceSpan.{SourceSpan}
use Rattle.filterset_grammar.specs.Tree.{Leaf}
use Rattle.filterset_language.specs.{Views.leaf_of, Views.tree_of, declared.tree.ParsedLeaf.ParsedLeaf}
use Rattle.filterset_offers.specs.Workspaces.{workspace_row}
use Rattle.filterset_rewriting.specs.Reading.{IsRead}
use Rattle.filterset_offers.specs.{Hover.leaf_part, Unmatched.LeafWarnings}
use Rattle.filterset_offers.proofs.unmatched.entry_warnings.Goals as goal

abbrev seen : Bor (ParsedLeaf SourceSpan) → Leaf SourceSpan
seen leaf = leaf_of leaf.now

pub returns : goal.returns
returns c =
    let shown = c.args.shown.now in
    let place = option_map placement_of c.args.entry.now.place in
    let Is = LeafWarnings (workspace_row c.args.asked.now.index.workspace) shown.encoding shown.lines.text.now place in
    let e = tree_of c.in-Some.tree in
    let reads : IsRead c.args.entry.now.text.now e = search rules in
    let leaves = ap (map seen) c.as_slice-leaves.ensures.value ∙ c.in_ok-leaves.ensures (λ leaf. is_some (leaf_part place leaf)) (search rules) in
    let Joined : List (Leaf SourceSpan) → Type 0 = λ ls. Joins Is ls (map view c.loop-leaf.values.items) in
    let are = rw (take_all c.loop-leaf.leaf-index c.as_slice-leaves.result.now c.loop-leaf-test.false) at c.loop-leaf.invariant in
    inl (e, reads, subst Joined leaves are)

pub loop-leaf-init : goal.loop-leaf-init
loop-leaf-init c = rw c.new-values.ensures.items no_parts

pub loop-leaf-preserved : goal.loop-leaf-preserved
loop-leaf-preserved c =
    let shown = c.args.shown.now in
    let leaves = c.as_slice-leaves.result.now in
    let i = c.loop-leaf.leaf-index in
    let leaf = c.leaf-item.result in
    let lt : i < length leaves = omega (arith, c.loop-leaf-test.true) in
    let at : get_or leaves i leaf ≡ leaf = search (rules, c.leaf-item.is) in
    rw c.in_ok-append.ensures.items
    (Joins-more (LeafWarnings (workspace_row c.args.asked.now.index.workspace) shown.encoding shown.lines.text.now (option_map placement_of c.args.entry.now.place)) seen view leaves i leaf
    c.loop-leaf.values.items c.in_ok-more.more.items lt at c.loop-leaf.invariant c.in_ok-more.ensures)
