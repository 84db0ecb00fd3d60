-- What is left of a tree, with the parentheses that it needs.
use Rattle.std.proofs.Common.{◌≡◌, ◌↔◌, ◌⊎◌, Bool, true, false, [], refl, ◌∙◌, ap, subst, inl, inr, ⊎_elim}
use Rattle.std.specs.Prelude.{IsTrue, MatchOption}
use Rattle.std.proofs.lemmas.List.Elements.{All-nil, All-cons}
use Rattle.filterset_expression.specs.BinaryMeaning.{is_either_of_test, EitherOfBinary, tree_leaf_with_default}
use Rattle.filterset_expression.specs.{Formula.TrueWhere, Formula.replaced, Meaning.MeansOfTest, Values.CanBe}
use Rattle.filterset_expression.proofs.AddedParens.{same_formula}
use Rattle.filterset_grammar.specs.AddedParens.{IsWithParens, leaf, HasWellFormedLeaves}
use Rattle.filterset_grammar.specs.{Printing.IsWellFormedLeaf, Tree.Tree, Tree.Set}
use Rattle.filterset_grammar.specs.Tree as tree
use Rattle.filterset_language.proofs.AddingParens.{one_way}
use Rattle.filterset_deciding.specs.Simplifying.{Answers.PickAlike, Answers.KeepsDecided, Pruned.IsLeftOf}
use Rattle.filterset_deciding.specs.Simplifying.Reducing.{Rest, Constant, Reduced, reduced, tree_of_rest}
use Rattle.filterset_deciding.specs.Simplifying.Simple.{IsConstant, IsReduced, IsSimple}
use Rattle.filterset_deciding.specs.Simplifying.Simplified.{IsSimplified}
use Rattle.filterset_deciding.proofs.Bridges.{picks_alike, keeps_decided}
use Rattle.filterset_deciding.proofs.Left.{LeftRest, reduced_left, parens_left, left_formed}
use Rattle.filterset_deciding.proofs.Kept.{IsReducedRest, reduced_is, reduced_stays, parens_reduced}

module _ {S : Type 0} where
  picks : (e d : Tree S) → IsWithParens (tree_of_rest (reduced e)) d → PickAlike e d
  picks e d added = λ packages test default lookup answer other is also.
      picks_alike e packages test default lookup answer other is
      (subst (λ f. IsTrue other ↔ TrueWhere (MeansOfTest packages test default (λ t m. IsTrue (lookup t m))) f) (same_formula added) also)

  keeps : (e d : Tree S) → IsWithParens (tree_of_rest (reduced e)) d → KeepsDecided e d
  keeps e d added = λ packages binary default value answer definite is.
      keeps_decided e packages binary default value answer definite
      (subst (λ f. MatchOption answer (CanBe is_either_of_test (EitherOfBinary packages binary) (replaced (tree_leaf_with_default default) f) true × CanBe is_either_of_test (EitherOfBinary packages binary) (replaced (tree_leaf_with_default default) f) false) (λ v. (other : Bool) → CanBe is_either_of_test (EitherOfBinary packages binary) (replaced (tree_leaf_with_default default) f) other ↔ (other ≡ v))) (same_formula added) is)

  left_case : (e : Tree S) (r : Rest S) {d : Tree S} → LeftRest e r → IsWithParens (tree_of_rest r) d → IsConstant d ⊎ IsLeftOf e d
  left_case e (Constant true) h leaf = inl tt
  left_case e (Constant false) h leaf = inl tt
  left_case e (Reduced k) h added = inr (parens_left h added)

  is_left : (e d : Tree S) → IsWithParens (tree_of_rest (reduced e)) d → IsConstant d ⊎ IsLeftOf e d
  is_left e d added = left_case e (reduced e) (reduced_left e) added

  simple_case : (r : Rest S) {d : Tree S} → IsReducedRest r → IsWithParens (tree_of_rest r) d → IsSimple d
  simple_case (Constant true) h leaf = inl tt
  simple_case (Constant false) h leaf = inl tt
  simple_case (Reduced k) h added = inr (k, h, added)

  is_simple : (e d : Tree S) → IsWithParens (tree_of_rest (reduced e)) d → IsSimple d
  is_simple e d added = simple_case (reduced e) (reduced_is e) added

  constant_stays : (e : Tree S) {d : Tree S} → IsConstant e → IsWithParens (tree_of_rest (reduced e)) d → d ≡ e
  constant_stays (Set tree.All) h leaf = refl
  constant_stays (Set tree.None) h leaf = refl
  constant_stays _ h added = absurd h

  bare_stays : (e d bare : Tree S) → IsReduced bare → IsWithParens bare e → IsWithParens (tree_of_rest (reduced e)) d → d ≡ e
  bare_stays e d bare is own added =
      let same : tree_of_rest (reduced e) ≡ bare = ap tree_of_rest (parens_reduced own ∙ reduced_stays bare is) in
      one_way (subst (λ k. IsWithParens k d) same added) own

  stays : (e d : Tree S) → IsWithParens (tree_of_rest (reduced e)) d → IsSimple e → d ≡ e
  stays e d added simple =
      ⊎_elim (λ h. constant_stays e h added) (λ h. bare_stays e d h.0 h.1 h.2 added) simple

  pub simplified : (e d : Tree S) → IsWithParens (tree_of_rest (reduced e)) d → IsSimplified e d
  simplified e d added = record {
    tests = picks e d added;
    binaries = keeps e d added;
    left = is_left e d added;
    simple = is_simple e d added;
    unchanged = stays e d added;
  }

  formed_case : (e : Tree S) (r : Rest S) → LeftRest e r → HasWellFormedLeaves e → HasWellFormedLeaves (tree_of_rest r)
  formed_case e (Constant true) h all = All-cons IsWellFormedLeaf tree.All [] tt (All-nil IsWellFormedLeaf)
  formed_case e (Constant false) h all = All-cons IsWellFormedLeaf tree.None [] tt (All-nil IsWellFormedLeaf)
  formed_case e (Reduced k) h all = left_formed h all

  pub formed : (e : Tree S) → HasWellFormedLeaves e → HasWellFormedLeaves (tree_of_rest (reduced e))
  formed e all = formed_case e (reduced e) (reduced_left e) all
