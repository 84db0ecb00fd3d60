use Rattle.std.proofs.Common.{◌≡◌, ◌∙◌, List, Option, None, Some, Bor, ap, inl, option_map, rules}
use Rattle.std.specs.Prelude.{find, slice_get}
use Rattle.std.proofs.lemmas.Result.{IfOk-weaker}
use Rattle.serde_json.specs.declared.value.Value.{the_lemmas}
use Rattle.filterset_entries.specs.Placements.{placement_of}
use Rattle.filterset_faults.specs.declared.span.SourceSpan.{SourceSpan}
use Rattle.filterset_grammar.specs.Tree.{Leaf, tree_leaves}
use Rattle.filterset_language.specs.{Views.leaf_of, Views.tree_of, declared.tree.ParsedLeaf.ParsedLeaf}
use Rattle.filterset_rewriting.specs.Reading.{IsRead}
use Rattle.filterset_offers.specs.Hover.{is_leaf_at}
use Rattle.filterset_documents.proofs.FindLemmas.{find_first}
use Rattle.filterset_offers.proofs.hover.hover_entry.Goals as goal

abbrev seen : Bor (ParsedLeaf SourceSpan) → Leaf SourceSpan
seen leaf = leaf_of leaf.now

abbrev front : List (Bor (ParsedLeaf SourceSpan)) → Option (Bor (ParsedLeaf SourceSpan))
front leaves = slice_get leaves 0

pub returns-in-Some-first : goal.returns-in-Some-first
returns-in-Some-first c =
    let test = is_leaf_at (option_map placement_of c.args.entry.now.place) c.args.offset in
    let leaf = c.in-Some-first.leaf.now in
    let e = tree_of c.in-Some.tree in
    let reads : IsRead c.args.entry.now.text.now e = search rules in
    let first : find test (tree_leaves e) ≡ Some (seen leaf) =
    find_first seen test (tree_leaves e) c.in_ok-leaves.leaves.items (Some leaf) (c.in_ok-leaves.ensures test (search rules)) (c.in-Some-first.ensures.value ∙ ap front c.deref.ensures.value) in
    IfOk-weaker c.hover_leaf.result _ _ (λ value is. inl (e, reads, rw first is)) c.hover_leaf.ensures

pub returns : goal.returns
returns c =
    let test = is_leaf_at (option_map placement_of c.args.entry.now.place) c.args.offset in
    let e = tree_of c.in-Some.tree in
    let reads : IsRead c.args.entry.now.text.now e = search rules in
    let first : find test (tree_leaves e) ≡ None =
    find_first seen test (tree_leaves e) c.in_ok-leaves.leaves.items None (c.in_ok-leaves.ensures test (search rules)) (c.in-None.ensures.value ∙ ap front c.deref.ensures.value) in
    inl (e, reads, rw first (search (rules, the_lemmas)))
