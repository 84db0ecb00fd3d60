-- Faults of predicates that match nothing.
use Rattle.std.proofs.Common.{◌≡◌, inl, inr, List, [], ◌∷◌, ◌++◌, refl, sym, ◌∙◌, ap, append_assoc}
use Rattle.std.specs.Prelude.{All}
use Rattle.std.proofs.lemmas.List.{append-nil}
use Rattle.std.proofs.lemmas.List.Elements.{All-nil, All-cons, All-head, All-tail}
use Rattle.filterset_faults.specs.declared.{error.ParseSingleError.ParseSingleError, span.SourceSpan.SourceSpan}
use Rattle.filterset_graph.specs.declared.package.PackageMetadata.{PackageMetadata}
use Rattle.filterset_grammar.specs.Tree.{Leaf}
use Rattle.nextest_filtering.specs.Checks.{IsChecked, SaysUnmatched, AreUnmatched, AddsUnmatched, AddsUnless}
use Rattle.nextest_filtering.specs.declared.compile.context.KnownGroups.{KnownGroups}

module _ (packages : List PackageMetadata) (groups : KnownGroups) where
  -- the faults of predicates, and of more of them after
  pub joined : (xs ys : List (Leaf SourceSpan)) (these those : List ParseSingleError) → AreUnmatched packages groups xs these → AreUnmatched packages groups ys those
      → AreUnmatched packages groups (xs ++ ys) (these ++ those)
  joined [] ys these those are more = rw are more
  joined (x ∷ xs) ys these those (inl is) more = inl (is.0, joined xs ys these those is.1 more)
  joined (x ∷ xs) ys these those (inr is) more =
      inr (is.0, is.1 ++ those, is.2, ap (λ (t : List ParseSingleError). t ++ those) is.3, is.4, joined xs ys is.1 those is.5 more)

  pub added_twice : (xs ys : List (Leaf SourceSpan)) (old mid new : List ParseSingleError) → AddsUnmatched packages groups xs old mid → AddsUnmatched packages groups ys mid new
      → AddsUnmatched packages groups (xs ++ ys) old new
  added_twice xs ys old mid new one two =
      (one.0 ++ two.0, two.1 ∙ ap (λ (t : List ParseSingleError). t ++ two.0) one.1 ∙ append_assoc old one.0 two.0, joined xs ys one.0 two.0 one.2 two.2)

  -- a predicate that need match nothing
  pub adds_none : (leaf : Leaf SourceSpan) (old new : List ParseSingleError) → new ≡ old → IsChecked packages groups leaf → AddsUnmatched packages groups (leaf ∷ []) old new
  adds_none leaf old new same is = ([], same ∙ sym (append-nil old), inl (is, refl))

  -- one that has to
  pub adds_one : (leaf : Leaf SourceSpan) (fault : ParseSingleError) (old new : List ParseSingleError) → SaysUnmatched leaf fault → AddsUnless (IsChecked packages groups leaf) fault old new
      → AddsUnmatched packages groups (leaf ∷ []) old new
  adds_one leaf fault old new says (inl is) = adds_none leaf old new is.1 is.0
  adds_one leaf fault old new says (inr is) = (fault ∷ [], is.1, inr (fault, [], is.0, refl, says, refl))

  -- where there is none, each predicate matches something
  pub none_unmatched : (xs : List (Leaf SourceSpan)) → AreUnmatched packages groups xs [] → All (IsChecked packages groups) xs
  none_unmatched [] are = All-nil (IsChecked packages groups)
  none_unmatched (x ∷ xs) (inl is) = All-cons (IsChecked packages groups) x xs is.0 (none_unmatched xs is.1)
  none_unmatched (x ∷ xs) (inr is) = absurd (let e = is.3 in cc)

  -- where each matches something, there is none
  pub all_matched : (xs : List (Leaf SourceSpan)) (faults : List ParseSingleError) → All (IsChecked packages groups) xs → AreUnmatched packages groups xs faults → faults ≡ []
  all_matched [] faults all are = are
  all_matched (x ∷ xs) faults all (inl is) = all_matched xs faults (All-tail (IsChecked packages groups) x xs all) is.1
  all_matched (x ∷ xs) faults all (inr is) = absurd (is.2 (All-head (IsChecked packages groups) x xs all))

-- the same fault, kept away by something that is as true
pub kept_away : (P Q : Type 0) → (P → Q) → (Q → P) → (fault : ParseSingleError) (old new : List ParseSingleError) → AddsUnless P fault old new → AddsUnless Q fault old new
kept_away P Q to from fault old new (inl is) = inl (to is.0, is.1)
kept_away P Q to from fault old new (inr is) = inr ((λ q. is.0 (from q)), is.1)
