-- The faults that refuse a tree stand in the text that spells it.
use Rattle.std.proofs.Common.{◌≡◌, ◌⊎◌, inl, inr, ℕ, List, [], ◌∷◌, refl, sym, subst, IsUtf8}
use Rattle.std.specs.Prelude.{All, IfSome, Option, Some, None, option_map}
use Rattle.std.specs.List.{Contains, cons_option, filter_map}
use Rattle.std.proofs.lemmas.List.Elements.{All-nil, All-cons, All-head, All-tail, All-contains_itself}
use Rattle.filterset_faults.specs.declared.error.ParseSingleError.{ParseSingleError, TheVariants.BannedPredicate}
use Rattle.filterset_faults.specs.declared.kind.BannedPredicateReason.{BannedPredicateReason}
use Rattle.filterset_faults.specs.declared.{kind.FiltersetKind.FiltersetKind, span.SourceSpan.SourceSpan}
use Rattle.filterset_graph.specs.declared.package.PackageMetadata.{PackageMetadata}
use Rattle.filterset_grammar.specs.{Bans.ban_reason, Grammar.Spells}
use Rattle.filterset_grammar.specs.Tree.{Leaf, Tree, Matching, Platform, Default, leaf_without_span, tree_leaves}
use Rattle.filterset_grammar.specs.declared.predicate.Predicate.TheVariants.{Package, Deps, Rdeps, Binary, BinaryId, Group}
use Rattle.filterset_grammar.specs.Tree as tree
use Rattle.filterset_language.specs.Faults.{FaultStands, IsOf, LeafAt, leaf_span}
use Rattle.filterset_language.proofs.LeafSpans.{LiesIn, LeafLiesIn, leaves_lie}
use Rattle.nextest_filtering.specs.{Bans.ban, Checks.AreUnmatched, Checks.SaysUnmatched}
use Rattle.nextest_filtering.specs.Compiling.{IsRefusedWith, found, rejected, IsRejectedWith, banned, unmatched}
use Rattle.nextest_filtering.specs.declared.compile.context.KnownGroups.{KnownGroups}

-- a predicate of the tree, whose span lies in the text
record IsPlacedIn (text : List ℕ) (e : Tree SourceSpan) (l : Leaf SourceSpan) : Type 0 where
  is_leaf : Contains (tree_leaves e) l
  lies : LeafLiesIn text l

module _ (text : List ℕ) (e : Tree SourceSpan) (spells : Spells text e) where
  abbrev IsPlaced : Leaf SourceSpan → Type 0
  IsPlaced l = IsPlacedIn text e l

  at_leaf : (Is : Leaf SourceSpan → Type 0) (l : Leaf SourceSpan) (s : SourceSpan) → Contains (tree_leaves e) l → leaf_span l ≡ Some s → Is l → LeafAt text s Is
  at_leaf Is l s is_leaf at is = record { expr = e; spelled = spells; leaf = l; is_leaf = is_leaf; at = at; is = is }

  -- ---- banned predicates

  ban_at : (kind : FiltersetKind) (l : Leaf SourceSpan) (s : SourceSpan) → Contains (tree_leaves e) l → leaf_span l ≡ Some s → LiesIn text s
      → (o : Option BannedPredicateReason) → ban_reason (leaf_without_span l) kind ≡ o
      → IfSome (option_map (λ (span, reason). BannedPredicate span kind reason) (option_map (λ (reason : BannedPredicateReason). (s, reason)) o)) (FaultStands text)
  ban_at kind l s is_leaf at lies None is = tt
  ban_at kind l s is_leaf at lies (Some reason) is = record {
    within = lies.within;
    begins = lies.begins;
    ends = lies.ends;
    there = at_leaf (λ (k : Leaf SourceSpan). ban_reason (leaf_without_span k) kind ≡ Some reason) l s is_leaf at is;
  }

  ban_stands : (kind : FiltersetKind) (l : Leaf SourceSpan) → IsPlaced l → IfSome (ban kind l) (FaultStands text)
  ban_stands kind (Matching p m s) is = ban_at kind (Matching p m s) s is.is_leaf refl is.lies (ban_reason (Matching p m tt) kind) refl
  ban_stands kind (Platform q s) is = ban_at kind (Platform q s) s is.is_leaf refl is.lies (ban_reason (Platform q tt) kind) refl
  ban_stands kind (Default s) is = ban_at kind (Default s) s is.is_leaf refl is.lies (ban_reason (Default tt) kind) refl
  ban_stands kind tree.All is = tt
  ban_stands kind tree.None is = tt

  -- one more fault, where there is one
  some_more : (fault : Option ParseSingleError) (faults : List ParseSingleError) → IfSome fault (FaultStands text) → All (FaultStands text) faults → All (FaultStands text) (cons_option fault faults)
  some_more (Some fault) faults one all = All-cons (FaultStands text) fault faults one all
  some_more None faults one all = all

  bans_stand : (kind : FiltersetKind) (ls : List (Leaf SourceSpan)) → All IsPlaced ls → All (FaultStands text) (filter_map (ban kind) ls)
  bans_stand kind [] all = All-nil (FaultStands text)
  bans_stand kind (l ∷ ls) all =
      some_more (ban kind l) (filter_map (ban kind) ls) (ban_stands kind l (All-head IsPlaced l ls all)) (bans_stand kind ls (All-tail IsPlaced l ls all))

  -- ---- unmatched predicates

  abbrev NamesPackages : Leaf SourceSpan → Type 0
  NamesPackages = IsOf (λ p. (p ≡ Package) ⊎ ((p ≡ Deps) ⊎ (p ≡ Rdeps)))

  unmatched_stands : (l : Leaf SourceSpan) (fault : ParseSingleError) → IsPlaced l → SaysUnmatched l fault → FaultStands text fault
  unmatched_stands (Matching Package m s) fault is says =
      rw says (record { within = is.lies.within; begins = is.lies.begins; ends = is.lies.ends; there = at_leaf NamesPackages (Matching Package m s) s is.is_leaf refl (inl refl) })
  unmatched_stands (Matching Deps m s) fault is says =
      rw says (record { within = is.lies.within; begins = is.lies.begins; ends = is.lies.ends; there = at_leaf NamesPackages (Matching Deps m s) s is.is_leaf refl (inr (inl refl)) })
  unmatched_stands (Matching Rdeps m s) fault is says =
      rw says (record { within = is.lies.within; begins = is.lies.begins; ends = is.lies.ends; there = at_leaf NamesPackages (Matching Rdeps m s) s is.is_leaf refl (inr (inr refl)) })
  unmatched_stands (Matching Binary m s) fault is says =
      rw says (record { within = is.lies.within; begins = is.lies.begins; ends = is.lies.ends; there = at_leaf (IsOf (λ p. p ≡ Binary)) (Matching Binary m s) s is.is_leaf refl refl })
  unmatched_stands (Matching BinaryId m s) fault is says =
      rw says (record { within = is.lies.within; begins = is.lies.begins; ends = is.lies.ends; there = at_leaf (IsOf (λ p. p ≡ BinaryId)) (Matching BinaryId m s) s is.is_leaf refl refl })
  unmatched_stands (Matching Group m s) fault is says =
      rw says (record { within = is.lies.within; begins = is.lies.begins; ends = is.lies.ends; there = at_leaf (IsOf (λ p. p ≡ Group)) (Matching Group m s) s is.is_leaf refl refl })
  unmatched_stands l fault is says = absurd says

  unmatched_stand : (packages : List PackageMetadata) (groups : KnownGroups) (ls : List (Leaf SourceSpan)) (faults : List ParseSingleError)
      → All IsPlaced ls → AreUnmatched packages groups ls faults → All (FaultStands text) faults
  unmatched_stand packages groups [] faults all is = rw is (All-nil (FaultStands text))
  unmatched_stand packages groups (l ∷ ls) faults all (inl matched) = unmatched_stand packages groups ls faults (All-tail IsPlaced l ls all) matched.1
  unmatched_stand packages groups (l ∷ ls) faults all (inr (fault, others, missed, is, says, behind)) =
      rw is (All-cons (FaultStands text) fault others (unmatched_stands l fault (All-head IsPlaced l ls all) says) (unmatched_stand packages groups ls others (All-tail IsPlaced l ls all) behind))

  -- ---- trees

  both : (ls : List (Leaf SourceSpan)) → All (Contains (tree_leaves e)) ls → All (LeafLiesIn text) ls → All IsPlaced ls
  both ls are lie = λ k l lt. record { is_leaf = are k l lt; lies = lie k l lt }

  placed : IsUtf8 text → All IsPlaced (tree_leaves e)
  placed utf8 = both (tree_leaves e) (All-contains_itself (tree_leaves e)) (leaves_lie text e utf8 spells)

  rejected_stand : (kind : FiltersetKind) (packages : List PackageMetadata) (groups : KnownGroups) (faults : List ParseSingleError) → IsUtf8 text → IsRejectedWith kind packages groups e faults → All (FaultStands text) faults
  rejected_stand kind packages groups faults utf8 (banned is some) = subst (All (FaultStands text)) (sym is) (bans_stand kind (tree_leaves e) (placed utf8))
  rejected_stand kind packages groups faults utf8 (unmatched allowed are some) = unmatched_stand packages groups (tree_leaves e) faults (placed utf8) are

-- the faults that refuse a text stand in it
pub refused_stand : (text : List ℕ) (kind : FiltersetKind) (packages : List PackageMetadata) (groups : KnownGroups) (faults : List ParseSingleError) → IsUtf8 text → IsRefusedWith text kind packages groups faults → All (FaultStands text) faults
refused_stand text kind packages groups faults utf8 (found unread) = unread.stand
refused_stand text kind packages groups faults utf8 (rejected e reads why) = rejected_stand text e reads.spelled kind packages groups faults utf8 why
