use Rattle.std.proofs.Common.{◌≡◌, ◌≢◌, List, [], ◌∷◌, ◌++◌, Bor, map, ap, sym, ◌∙◌, refl, subst, arith}
use Rattle.std.proofs.lemmas.Grind.{common_steps}
use Rattle.std.specs.List.{filter_map}
use Rattle.filterset_faults.specs.declared.{error.ParseSingleError.ParseSingleError, span.SourceSpan.SourceSpan}
use Rattle.filterset_grammar.specs.Tree.{Leaf, tree_leaves}
use Rattle.filterset_language.specs.{Views.leaf_of, Views.tree_of, declared.tree.ParsedLeaf.ParsedLeaf}
use Rattle.nextest_filtering.specs.{Bans.ban, Checks.AreUnmatched}
use Rattle.nextest_filtering.specs.Compiling.{packages_of, banned, unmatched}
use Rattle.nextest_filtering.proofs.{Banned.bans_of_chosen, Banned.some_ban, Banned.allowed, Unmatched.none_unmatched}
use Rattle.nextest_filtering.proofs.compile.compile.Goals as goal

abbrev seen : Bor (ParsedLeaf SourceSpan) → Leaf SourceSpan
seen leaf = leaf_of leaf.now

nothing_seen : (leaves : List (Bor (ParsedLeaf SourceSpan))) → map seen leaves ≡ [] → leaves ≡ []
nothing_seen [] e = refl
nothing_seen (leaf ∷ leaves) e = cc

pub returns-clause-allowed : goal.returns-clause-allowed
returns-clause-allowed c =
    let e = tree_of c.args.expr.now in
    let none : c.in_ok-banned.banned.items ≡ [] = grind (arith, common_steps) in
    allowed c.args.kind (tree_leaves e) (sym c.in_ok-banned.ensures ∙ ap (map seen) none)

pub returns-clause-checked : goal.returns-clause-checked
returns-clause-checked c =
    let leaves = tree_leaves (tree_of c.args.expr.now) in
    let packages = packages_of c.args.cx.now in
    let groups = c.args.known_groups.now in
    let none : c.compile_expr.new.faults.items ≡ [] = grind (arith, common_steps) in
    let added = c.in_ok-compiled.ensures.unmatched in
    let nothing : added.0 ≡ [] = (let h = sym none ∙ added.1 ∙ ap (λ (t : List ParseSingleError). t ++ added.0) c.new-faults.ensures.items in sym h) in
    none_unmatched packages groups leaves (subst (AreUnmatched packages groups leaves) nothing added.2)

pub returns-then-not-is_empty-clause-refused : goal.returns-then-not-is_empty-clause-refused
returns-then-not-is_empty-clause-refused c =
    let kind = c.args.kind in
    let e = tree_of c.args.expr.now in
    let some : c.in_ok-banned.banned.items ≢ [] = λ none. grind (arith, common_steps) in
    let is = c.in_ok-list_bans.ensures ∙ ap (λ (t : List (Bor (ParsedLeaf SourceSpan))). filter_map (ban kind) (map seen t)) c.deref.ensures.value ∙ ap (filter_map (ban kind)) c.in_ok-banned.ensures ∙ bans_of_chosen kind e in
    banned is (λ empty. some (nothing_seen c.in_ok-banned.banned.items (c.in_ok-banned.ensures ∙ some_ban kind (tree_leaves e) (bans_of_chosen kind e ∙ sym is ∙ empty))))

pub returns-then-not-is_empty-2-clause-refused : goal.returns-then-not-is_empty-2-clause-refused
returns-then-not-is_empty-2-clause-refused c =
    let leaves = tree_leaves (tree_of c.args.expr.now) in
    let packages = packages_of c.args.cx.now in
    let groups = c.args.known_groups.now in
    let none : c.in_ok-banned.banned.items ≡ [] = grind (arith, common_steps) in
    let some : c.compile_expr.new.faults.items ≢ [] = λ none. grind (arith, common_steps) in
    let added = c.in_ok-compiled.ensures.unmatched in
    let is : added.0 ≡ c.compile_expr.new.faults.items = sym (added.1 ∙ ap (λ (t : List ParseSingleError). t ++ added.0) c.new-faults.ensures.items) in
    unmatched (allowed c.args.kind leaves (sym c.in_ok-banned.ensures ∙ ap (map seen) none)) (subst (AreUnmatched packages groups leaves) is added.2) some
