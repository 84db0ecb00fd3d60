-- The predicates that are banned from filtersets of a kind, and their faults.
use Rattle.std.specs.Prelude.{◌≡◌, Bool, List, All, Option, None, option_map}
use Rattle.std.specs.{List.filter_map, Option.is_some, Option.option_and_then}
use Rattle.filterset_faults.specs.declared.error.ParseSingleError.{ParseSingleError, TheVariants.BannedPredicate}
use Rattle.filterset_faults.specs.declared.kind.BannedPredicateReason.{BannedPredicateReason}
use Rattle.filterset_faults.specs.declared.{kind.FiltersetKind.FiltersetKind, span.SourceSpan.SourceSpan}
use Rattle.filterset_grammar.specs.{Bans.ban_reason, Tree.Leaf, Tree.Tree, Tree.leaf_without_span, Tree.tree_leaves}
use Rattle.filterset_language.specs.Faults.{leaf_span}

-- the span of a banned predicate, and why it is banned
abbrev pub banned : FiltersetKind → Leaf SourceSpan → Option (SourceSpan × BannedPredicateReason)
banned kind leaf =
    option_and_then (λ span. option_map (λ reason. (span, reason)) (ban_reason (leaf_without_span leaf) kind)) (leaf_span leaf)

-- whether the predicate is banned from filtersets of this kind
abbrev pub is_banned : FiltersetKind → Leaf SourceSpan → Bool
is_banned kind leaf = is_some (banned kind leaf)

-- the fault of a banned predicate
abbrev pub ban : FiltersetKind → Leaf SourceSpan → Option ParseSingleError
ban kind leaf = option_map (λ (span, reason). BannedPredicate span kind reason) (banned kind leaf)

-- the faults of the banned predicates of a tree, from left to right
abbrev pub bans : FiltersetKind → Tree SourceSpan → List ParseSingleError
bans kind e = filter_map (ban kind) (tree_leaves e)

-- no predicate of the tree is banned from filtersets of this kind
abbrev pub IsAllowed : FiltersetKind → Tree SourceSpan → Type 0
IsAllowed kind e = All (λ leaf. ban_reason (leaf_without_span leaf) kind ≡ None) (tree_leaves e)
