-- Unions within the default filter, and what they pick.
use Rattle.std.proofs.Common.{◌≡◌, ◌∙◌, List, [], ◌∷◌, Bool, true, false, refl, ap, subst, sym, inl, inr}
use Rattle.std.specs.{Prelude.◌↔◌, Prelude.◌⊎◌, Prelude.IsTrue, List.AllZip, List.Any}
use Rattle.std.proofs.lemmas.Bool.{false≢true}
use Rattle.filterset_expression.specs.declared.logic.Connective.TheVariants.{Conjunction}
use Rattle.filterset_expression.specs.Expression.{CompiledLeaf, Default, HoldsOfBinary, HoldsOfTest, formula, is_of_test, leaf_with_default}
use Rattle.filterset_expression.specs.Formula.{Compound, Formula, Leaf, TrueWhere, replaced}
use Rattle.filterset_expression.specs.{Meaning.IsCompiled, Values.CanBe, declared.expression.CompiledExpr.CompiledExpr}
use Rattle.filterset_expression.specs.declared.query.{BinaryQuery.BinaryQuery, TestQuery.TestQuery}
use Rattle.filterset_expression.proofs.Meanings.{compiled_means}
use Rattle.filterset_listing.specs.Asking.{ExprCanPick, ExprPicks, Text, TreeCanPick, TreePicks, in_group}
use Rattle.filterset_listing.specs.Selection.{IsSelection, MeansSelection, RunDoes}
use Rattle.filterset_listing.specs.Union.{AnyDoes, union_formula}
use Rattle.filterset_listing.proofs.Defaults.{put_in}
use Rattle.filterset_listing.proofs.MeaningLemmas.{both_can, compiled_can_pick, either_can}
use Rattle.filterset_listing.proofs.UnionLemmas.{any_behind, any_here, any_none, any_parts, union_does}

module _ (default : CompiledExpr) (test : TestQuery) (group : Text) where
  -- the formula picks the test in the group
  abbrev Picks : Formula CompiledLeaf → Type 0
  Picks f = TrueWhere (HoldsOfTest test (in_group group)) (replaced (leaf_with_default default) f)

  union_picks : (exprs : List CompiledExpr) → Picks (union_formula exprs) ↔ AnyDoes (λ expr. ExprPicks default expr test group) exprs
  union_picks = union_does Picks (λ f g. (λ picks. picks, λ picks. picks)) tt

module _ (default : CompiledExpr) (binary : BinaryQuery) where
  -- the formula can pick a test of the binary
  abbrev CanPick : Formula CompiledLeaf → Type 0
  CanPick f = CanBe is_of_test (HoldsOfBinary binary) (replaced (leaf_with_default default) f) true

  union_can_pick : (exprs : List CompiledExpr) → CanPick (union_formula exprs) ↔ AnyDoes (λ expr. ExprCanPick default expr binary) exprs
  union_can_pick =
      union_does CanPick (λ f g. either_can is_of_test (HoldsOfBinary binary) (replaced (leaf_with_default default) f) (replaced (leaf_with_default default) g)) ([], refl, (λ yes. tt, λ all. refl))

-- what the union does, a run does that ignores the default filter
ignoring : {P Q D : Type 0} → P ↔ Q → P ↔ ((IsTrue true ⊎ D) × Q)
ignoring e = (λ p. (inl refl, e.0 p), λ both. e.1 both.1)

not_ignoring : {D : Type 0} → IsTrue false ⊎ D → D
not_ignoring either = elim either [ inl clash ↦ absurd (false≢true clash) | inr does ↦ does ]

-- the union alone, where the default filter is ignored
pub IsSelection-ignoring : (ignores : Bool) (exprs : List CompiledExpr) (union : CompiledExpr) → ignores ≡ true
    → formula union ≡ union_formula exprs → IsSelection ignores exprs union
IsSelection-ignoring false exprs union is are = absurd (false≢true is)
IsSelection-ignoring true exprs union is are = record {
  picks = λ default test group.
      subst (λ f. Picks default test group f ↔ RunDoes true (TrueWhere (HoldsOfTest test (in_group group)) (formula default)) (λ expr. ExprPicks default expr test group) exprs) (sym are) (ignoring (union_picks default test group exprs));
  can_pick = λ default binary.
      subst (λ f. CanPick default binary f ↔ RunDoes true (CanBe is_of_test (HoldsOfBinary binary) (formula default) true) (λ expr. ExprCanPick default expr binary) exprs) (sym are) (ignoring (union_can_pick default binary exprs));
}

-- the union within the default filter, where it is not
pub IsSelection-within : (ignores : Bool) (exprs : List CompiledExpr) (union selection : CompiledExpr) → ignores ≡ false
    → formula union ≡ union_formula exprs → formula selection ≡ Compound Conjunction (Leaf Default) (formula union) → IsSelection ignores exprs selection
IsSelection-within true exprs union selection is are within = absurd (false≢true (sym is))
IsSelection-within false exprs union selection is are within =
    let whole : formula selection ≡ Compound Conjunction (Leaf Default) (union_formula exprs) = within ∙ ap (Compound Conjunction (Leaf Default)) are in
    record {
      picks = λ default test group.
          let these = union_picks default test group exprs in
          subst (λ f. Picks default test group f ↔ RunDoes false (TrueWhere (HoldsOfTest test (in_group group)) (formula default)) (λ expr. ExprPicks default expr test group) exprs) (sym whole)
          (λ picks. (inr picks.0, these.0 picks.1), λ runs. (not_ignoring runs.0, these.1 runs.1));
      can_pick = λ default binary.
          let these = union_can_pick default binary exprs in
          let both = both_can is_of_test (HoldsOfBinary binary) (formula default) (replaced (leaf_with_default default) (union_formula exprs)) in
          subst (λ f. CanPick default binary f ↔ RunDoes false (CanBe is_of_test (HoldsOfBinary binary) (formula default) true) (λ expr. ExprCanPick default expr binary) exprs) (sym whole)
          (λ can. let two = both.0 can in (inr two.0, these.0 two.1), λ runs. both.1 (not_ignoring runs.0, these.1 runs.1));
    }

-- what the elements of two lists do alike, the lists do alike
module _ {A B : Type 0} (Does : A → Type 0) (Did : B → Type 0) (Is : B → A → Type 0) (same : (y : B) (x : A) → Is y x → Does x ↔ Did y) where
  one_alike : (ys : List B) (xs : List A) → AllZip Is ys xs → Any Does xs ↔ Any Did ys
  one_alike [] [] are = (λ none. absurd (any_none Does none), λ none. absurd (any_none Did none))
  one_alike [] (x ∷ xs) are = absurd are
  one_alike (y ∷ ys) [] are = absurd are
  one_alike (y ∷ ys) (x ∷ xs) (is, are) =
      let first = same y x is in
      let others = one_alike ys xs are in (
        λ one. elim (any_parts Does x xs one) [ inl does ↦ any_here Did y ys (first.0 does) | inr later ↦ any_behind Did y ys (others.0 later) ],
        λ one. elim (any_parts Did y ys one) [ inl did ↦ any_here Does x xs (first.1 did) | inr later ↦ any_behind Does x xs (others.1 later) ],
      )

  none_alike : (ys : List B) (xs : List A) → AllZip Is ys xs → (xs ≡ []) ↔ (ys ≡ [])
  none_alike [] [] are = (λ e. refl, λ e. refl)
  none_alike [] (x ∷ xs) are = absurd are
  none_alike (y ∷ ys) [] are = absurd are
  none_alike (y ∷ ys) (x ∷ xs) are = (λ e. absurd (let clash : x ∷ xs ≡ [] = e in cc), λ e. absurd (let clash : y ∷ ys ≡ [] = e in cc))

  any_alike : (ys : List B) (xs : List A) → AllZip Is ys xs → AnyDoes Does xs ↔ AnyDoes Did ys
  any_alike ys xs are =
      let none = none_alike ys xs are in
      let one = one_alike ys xs are in
      (λ any. elim any [ inl e ↦ inl (none.0 e) | inr some ↦ inr (one.0 some) ], λ any. elim any [ inl e ↦ inl (none.1 e) | inr some ↦ inr (one.1 some) ])

  run_alike : (ignores : Bool) (P Q : Type 0) → P ↔ Q → (ys : List B) (xs : List A) → AllZip Is ys xs → RunDoes ignores P Does xs ↔ RunDoes ignores Q Did ys
  run_alike ignores P Q e ys xs are =
      let these = any_alike ys xs are in (
        λ two. (elim two.0 [ inl ignored ↦ inl ignored | inr p ↦ inr (e.0 p) ], these.0 two.1),
        λ two. (elim two.0 [ inl ignored ↦ inl ignored | inr q ↦ inr (e.1 q) ], these.1 two.1),
      )

both_ways : (P Q R : Type 0) → P ↔ Q → Q ↔ R → P ↔ R
both_ways P Q R e k = (λ p. k.0 (e.0 p), λ r. e.1 (k.1 r))

-- a selection of compiled trees picks what a runner runs by the trees
pub selection_means : (ignores : Bool) (exprs : List CompiledExpr) (selection : CompiledExpr) → IsSelection ignores exprs selection → MeansSelection ignores exprs selection
selection_means ignores exprs selection is packages default tree trees of_default none are =
    let alone : replaced (leaf_with_default default) (formula default) ≡ formula default = put_in default (formula default) none in (
      λ test group.
          let own : TrueWhere (HoldsOfTest test (in_group group)) (formula default) ↔ TreePicks packages default tree test group =
          subst (λ f. TrueWhere (HoldsOfTest test (in_group group)) f ↔ TreePicks packages default tree test group) alone (compiled_means packages test default (in_group group) tree default of_default) in
          both_ways _ _ _ (is.picks default test group) (run_alike (λ expr. ExprPicks default expr test group) (λ e. TreePicks packages default e test group) (IsCompiled packages)
          (λ e expr of_tree. compiled_means packages test default (in_group group) e expr of_tree) ignores _ _ own trees exprs are),
      λ binary.
          let own : CanBe is_of_test (HoldsOfBinary binary) (formula default) true ↔ TreeCanPick packages default tree binary =
          subst (λ f. CanBe is_of_test (HoldsOfBinary binary) f true ↔ TreeCanPick packages default tree binary) alone (compiled_can_pick packages binary default tree default of_default) in
          both_ways _ _ _ (is.can_pick default binary) (run_alike (λ expr. ExprCanPick default expr binary) (λ e. TreeCanPick packages default e binary) (IsCompiled packages)
          (λ e expr of_tree. compiled_can_pick packages binary default e expr of_tree) ignores _ _ own trees exprs are),
    )
