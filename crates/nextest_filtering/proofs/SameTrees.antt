-- What is said of a tree without its spans: that the grammar of `regex` reads its patterns, that none of its predicates
-- is banned, and that each of them matches something. So it is said of every tree that is the same but for its spans.
use Rattle.std.proofs.Common.{◌≡◌, ℕ, List, [], ◌∷◌, ◌++◌, map, refl, ap, subst, sym, ◌∙◌}
use Rattle.std.specs.Prelude.{All, None}
use Rattle.std.proofs.lemmas.List.{map-append}
use Rattle.std.proofs.lemmas.List.Elements.{All-nil, All-cons, All-head, All-tail}
use Rattle.filterset_faults.specs.declared.{kind.FiltersetKind.FiltersetKind, span.SourceSpan.SourceSpan}
use Rattle.filterset_graph.specs.declared.package.PackageMetadata.{PackageMetadata}
use Rattle.filterset_grammar.specs.{Bans.ban_reason, Grammar.Spells, Patterns.BareAreRead}
use Rattle.filterset_grammar.specs.Tree.{Leaf, Tree, leaf_without_span, without_spans, SameTree, tree_leaves}
use Rattle.filterset_grammar.specs.Tree as tree
use Rattle.nextest_filtering.specs.{Checks.MatchesSomething, Compiling.IsFiltersetOf}
use Rattle.nextest_filtering.specs.declared.compile.context.KnownGroups.{KnownGroups}

-- ---- predicates without their spans

bare_leaves : {S : Type 0} (e : Tree S) → tree_leaves (without_spans e) ≡ map leaf_without_span (tree_leaves e)
bare_leaves (tree.Not op e) = bare_leaves e
bare_leaves (tree.Union op l r) =
    ap (λ (ls : List (Leaf (Unit {0}))). ls ++ tree_leaves (without_spans r)) (bare_leaves l)
    ∙ ap (λ (ls : List (Leaf (Unit {0}))). map leaf_without_span (tree_leaves l) ++ ls) (bare_leaves r)
    ∙ sym (map-append leaf_without_span (tree_leaves l) (tree_leaves r))
bare_leaves (tree.Join op l r) =
    ap (λ (ls : List (Leaf (Unit {0}))). ls ++ tree_leaves (without_spans r)) (bare_leaves l)
    ∙ ap (λ (ls : List (Leaf (Unit {0}))). map leaf_without_span (tree_leaves l) ++ ls) (bare_leaves r)
    ∙ sym (map-append leaf_without_span (tree_leaves l) (tree_leaves r))
bare_leaves (tree.Parens e) = bare_leaves e
bare_leaves (tree.Set l) = refl

same_leaves : (d e : Tree SourceSpan) → SameTree d e → map leaf_without_span (tree_leaves d) ≡ map leaf_without_span (tree_leaves e)
same_leaves d e same = sym (bare_leaves d) ∙ ap tree_leaves same ∙ bare_leaves e

-- what holds of each predicate of one tree without its span holds of each of the other
module _ (P : Leaf (Unit {0}) → Type 0) where
  all_bare : (ls : List (Leaf SourceSpan)) → All (λ l. P (leaf_without_span l)) ls → All P (map leaf_without_span ls)
  all_bare [] all = All-nil P
  all_bare (l ∷ ls) all =
      All-cons P (leaf_without_span l) (map leaf_without_span ls)
      (All-head (λ (k : Leaf SourceSpan). P (leaf_without_span k)) l ls all)
      (all_bare ls (All-tail (λ (k : Leaf SourceSpan). P (leaf_without_span k)) l ls all))

  all_spanned : (ls : List (Leaf SourceSpan)) → All P (map leaf_without_span ls) → All (λ l. P (leaf_without_span l)) ls
  all_spanned [] all = All-nil (λ (k : Leaf SourceSpan). P (leaf_without_span k))
  all_spanned (l ∷ ls) all =
      All-cons (λ (k : Leaf SourceSpan). P (leaf_without_span k)) l ls
      (All-head P (leaf_without_span l) (map leaf_without_span ls) all)
      (all_spanned ls (All-tail P (leaf_without_span l) (map leaf_without_span ls) all))

  all_same : (d e : Tree SourceSpan) → SameTree d e → All (λ l. P (leaf_without_span l)) (tree_leaves e) → All (λ l. P (leaf_without_span l)) (tree_leaves d)
  all_same d e same all = all_spanned (tree_leaves d) (subst (All P) (sym (same_leaves d e same)) (all_bare (tree_leaves e) all))

-- ---- filtersets

-- a text that spells the same tree as one that is a filterset is one too
pub is_filterset_too : (text other : List ℕ) (kind : FiltersetKind) (packages : List PackageMetadata) (groups : KnownGroups) (d e : Tree SourceSpan)
    → SameTree d e → Spells other d → IsFiltersetOf text kind packages groups e → IsFiltersetOf other kind packages groups d
is_filterset_too text other kind packages groups d e same spells is = record {
  reads = record { spelled = spells; patterns = subst BareAreRead (sym same) is.reads.patterns };
  allowed = all_same (λ l. ban_reason l kind ≡ None) d e same is.allowed;
  checked = all_same (MatchesSomething packages groups) d e same is.checked;
}
