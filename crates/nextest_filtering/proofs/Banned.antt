-- Trees with banned predicates, and without.
use Rattle.std.proofs.Common.{◌≡◌, ◌≢◌, false, List, [], ◌∷◌, refl}
use Rattle.std.specs.Prelude.{All, Option, None, Some, option_map}
use Rattle.std.specs.{List.filter, List.filter_map, Option.is_some, Option.option_and_then}
use Rattle.std.proofs.lemmas.List.Elements.{All-nil, All-cons, All-head, All-tail, All-weaker}
use Rattle.std.proofs.lemmas.List.Folds.{list_any_none}
use Rattle.filterset_faults.specs.declared.error.ParseSingleError.{ParseSingleError, TheVariants.BannedPredicate}
use Rattle.filterset_faults.specs.declared.kind.BannedPredicateReason.{BannedPredicateReason}
use Rattle.filterset_faults.specs.declared.{kind.FiltersetKind.FiltersetKind, span.SourceSpan.SourceSpan}
use Rattle.filterset_faults.specs.declared.kind.FiltersetKind.TheVariants as kinds
use Rattle.filterset_grammar.specs.Bans.{ban_reason}
use Rattle.filterset_grammar.specs.Tree.{Leaf, Tree, Matching, Platform, Default, leaf_without_span, tree_leaves}
use Rattle.filterset_grammar.specs.declared.predicate.Predicate.TheVariants.{Package, Deps, Rdeps, Kind, Binary, BinaryId, Test, Group}
use Rattle.filterset_grammar.specs.Tree as tree
use Rattle.filterset_language.specs.Faults.{leaf_span}
use Rattle.nextest_filtering.specs.Bans.{banned, is_banned, ban, bans, IsAllowed}
use Rattle.nextest_filtering.proofs.Filtered.{filtered_first}
use Rattle.filterset_expression.specs.Meaning.{has_tree_leaf, is_default_predicate, is_group_predicate}

abbrev pair : SourceSpan → BannedPredicateReason → SourceSpan × BannedPredicateReason
pair s reason = (s, reason)

no_pair : (s : SourceSpan) (o : Option BannedPredicateReason) → option_map (pair s) o ≡ None → o ≡ None
no_pair s (Some reason) e = absurd cc
no_pair s None e = refl

no_span : (o : Option SourceSpan) → option_and_then (λ (s : SourceSpan). option_map (pair s) None) o ≡ None
no_span (Some s) = refl
no_span None = refl

module _ (kind : FiltersetKind) where
  -- no reason bans the predicate
  abbrev IsFree : Leaf SourceSpan → Type 0
  IsFree leaf = ban_reason (leaf_without_span leaf) kind ≡ None

  abbrev pub fault_at : SourceSpan × BannedPredicateReason → ParseSingleError
  fault_at = λ (span, reason). BannedPredicate span kind reason

  no_fault : (leaf : Leaf SourceSpan) → is_banned kind leaf ≡ false → ban kind leaf ≡ None
  no_fault leaf e = from (banned kind leaf) e
    where
      from : (o : Option (SourceSpan × BannedPredicateReason)) → is_some o ≡ false → option_map fault_at o ≡ None
      from (Some at) f = cc
      from None f = refl

  -- the faults of the tree are those of its banned predicates
  pub bans_of_chosen : (e : Tree SourceSpan) → filter_map (ban kind) (filter (is_banned kind) (tree_leaves e)) ≡ bans kind e
  bans_of_chosen e = filtered_first (ban kind) (is_banned kind) no_fault (tree_leaves e)

  -- each of them has one
  pub some_ban : (leaves : List (Leaf SourceSpan)) → filter_map (ban kind) (filter (is_banned kind) leaves) ≡ [] → filter (is_banned kind) leaves ≡ []
  some_ban [] e = refl
  some_ban (leaf ∷ leaves) e = by (banned kind leaf) refl e (some_ban leaves)
    where
      by : (o : Option (SourceSpan × BannedPredicateReason)) → banned kind leaf ≡ o → filter_map (ban kind) (filter (is_banned kind) (leaf ∷ leaves)) ≡ []
          → (filter_map (ban kind) (filter (is_banned kind) leaves) ≡ [] → filter (is_banned kind) leaves ≡ []) → filter (is_banned kind) (leaf ∷ leaves) ≡ []
      by (Some at) is none more = let h = rw (is, is) at none in cc
      by None is none more = rw is (more (rw is at none))

  -- a predicate is not banned where there is no reason
  reason_none : (leaf : Leaf SourceSpan) → banned kind leaf ≡ None → ban_reason (leaf_without_span leaf) kind ≡ None
  reason_none (Matching p m s) is = no_pair s (ban_reason (Matching p m tt) kind) is
  reason_none (Platform q s) is = no_pair s (ban_reason (Platform q tt) kind) is
  reason_none (Default s) is = no_pair s (ban_reason (Default tt) kind) is
  reason_none tree.All is = refl
  reason_none tree.None is = refl

  banned_none : (leaf : Leaf SourceSpan) → ban_reason (leaf_without_span leaf) kind ≡ None → banned kind leaf ≡ None
  banned_none leaf is = rw is (no_span (leaf_span leaf))

  -- where none is chosen, the tree is allowed
  pub allowed : (leaves : List (Leaf SourceSpan)) → filter (is_banned kind) leaves ≡ [] → All (λ leaf. ban_reason (leaf_without_span leaf) kind ≡ None) leaves
  allowed [] e = All-nil IsFree
  allowed (leaf ∷ leaves) e = by (banned kind leaf) refl e (allowed leaves)
    where
      by : (o : Option (SourceSpan × BannedPredicateReason)) → banned kind leaf ≡ o → filter (is_banned kind) (leaf ∷ leaves) ≡ []
          → (filter (is_banned kind) leaves ≡ [] → All IsFree leaves) → All IsFree (leaf ∷ leaves)
      by (Some at) is none more = absurd (let h = rw is at none in cc)
      by None is none more = All-cons IsFree leaf leaves (reason_none leaf is) (more (rw is at none))

  -- an allowed tree has no such fault
  none_banned : (leaves : List (Leaf SourceSpan)) → All IsFree leaves → filter_map (ban kind) leaves ≡ []
  none_banned [] all = refl
  none_banned (leaf ∷ leaves) all =
      let is = banned_none leaf (All-head IsFree leaf leaves all) in
      rw is (none_banned leaves (All-tail IsFree leaf leaves all))

  pub no_bans : (e : Tree SourceSpan) → IsAllowed kind e → bans kind e ≡ []
  no_bans e all = none_banned (tree_leaves e) all

-- a default filter has no `default` leaf
leaf_no_default : (leaf : Leaf SourceSpan) → ban_reason (leaf_without_span leaf) kinds.DefaultFilter ≡ None → is_default_predicate leaf ≡ false
leaf_no_default (Matching p m s) is = refl
leaf_no_default (Platform p s) is = refl
leaf_no_default (Default s) is = cc
leaf_no_default tree.All is = refl
leaf_no_default tree.None is = refl

pub no_default : (e : Tree SourceSpan) → IsAllowed kinds.DefaultFilter e → has_tree_leaf is_default_predicate e ≡ false
no_default e all = list_any_none is_default_predicate (tree_leaves e)
    (All-weaker (λ (leaf : Leaf SourceSpan). ban_reason (leaf_without_span leaf) kinds.DefaultFilter ≡ None) (λ (leaf : Leaf SourceSpan). is_default_predicate leaf ≡ false) leaf_no_default (tree_leaves e) all)

-- only a filterset of kind test may have a `group` leaf
leaf_no_group : (kind : FiltersetKind) → kind ≢ kinds.Test → (leaf : Leaf SourceSpan) → ban_reason (leaf_without_span leaf) kind ≡ None → is_group_predicate leaf ≡ false
leaf_no_group kinds.Test apart leaf is = absurd (apart refl)
leaf_no_group kinds.TestArchive apart (Matching Group m s) is = cc
leaf_no_group kinds.OverrideFilter apart (Matching Group m s) is = cc
leaf_no_group kinds.DefaultFilter apart (Matching Group m s) is = cc
leaf_no_group kind apart (Matching Package m s) is = refl
leaf_no_group kind apart (Matching Deps m s) is = refl
leaf_no_group kind apart (Matching Rdeps m s) is = refl
leaf_no_group kind apart (Matching Kind m s) is = refl
leaf_no_group kind apart (Matching Binary m s) is = refl
leaf_no_group kind apart (Matching BinaryId m s) is = refl
leaf_no_group kind apart (Matching Test m s) is = refl
leaf_no_group kind apart (Platform p s) is = refl
leaf_no_group kind apart (Default s) is = refl
leaf_no_group kind apart tree.All is = refl
leaf_no_group kind apart tree.None is = refl

pub no_group : (kind : FiltersetKind) → kind ≢ kinds.Test → (e : Tree SourceSpan) → IsAllowed kind e → has_tree_leaf is_group_predicate e ≡ false
no_group kind apart e all = list_any_none is_group_predicate (tree_leaves e)
    (All-weaker (λ (leaf : Leaf SourceSpan). ban_reason (leaf_without_span leaf) kind ≡ None) (λ (leaf : Leaf SourceSpan). is_group_predicate leaf ≡ false) (leaf_no_group kind apart) (tree_leaves e) all)
