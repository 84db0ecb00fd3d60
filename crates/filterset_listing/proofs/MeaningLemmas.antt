-- What compiled expressions can pick, and what their trees can pick.
use Rattle.std.proofs.Common.{◌≡◌, ◌∙◌, ◌↔◌, ◌+◌, ◌++◌, Bool, true, List, refl, sym, subst, inl, inr, length, take, drop, replicate, length-append, arith, ◌⊎◌}
use Rattle.std.proofs.{lemmas.List.length-replicate, Math.Seq.take-append_seam, Math.Seq.drop-append_seam}
use Rattle.filterset_faults.specs.declared.span.SourceSpan.{SourceSpan}
use Rattle.filterset_graph.specs.declared.package.PackageMetadata.{PackageMetadata}
use Rattle.filterset_grammar.specs.Tree.{Tree}
use Rattle.filterset_expression.specs.declared.logic.Connective.TheVariants.{Conjunction, Disjunction}
use Rattle.filterset_expression.specs.{BinaryMeaning.PossibleOfTree, Expression.Possible}
use Rattle.filterset_expression.specs.{Formula.Compound, Formula.Formula, Meaning.IsCompiled}
use Rattle.filterset_expression.specs.Values.{CanBe, TrueUnder, occurrences}
use Rattle.filterset_expression.specs.declared.{expression.CompiledExpr.CompiledExpr, query.BinaryQuery.BinaryQuery}
use Rattle.filterset_expression.proofs.BinaryMeanings.{tells_the_same}
use Rattle.filterset_expression.proofs.Exact.{back_length, compound_can_be, front_length}
use Rattle.filterset_listing.specs.Asking.{ExprCanPick, TreeCanPick}

-- a compiled tree can have a value for a binary exactly if the tree can
pub compiled_can_be : (packages : List PackageMetadata) (binary : BinaryQuery) (default : CompiledExpr) (tree : Tree SourceSpan) (expr : CompiledExpr) → IsCompiled packages tree expr
    → (value : Bool) → Possible expr binary default value ↔ PossibleOfTree tree packages binary default value
compiled_can_be packages binary default tree expr is value =
    let same = tells_the_same packages tree expr is in
    let counted = same.counted default in
    let alike = same.alike binary default in (
      λ can. (can.0, can.1 ∙ counted, (λ yes. (alike can.0).0 (can.2.0 yes), λ under. can.2.1 ((alike can.0).1 under))),
      λ can. (can.0, can.1 ∙ sym counted, (λ yes. (alike can.0).1 (can.2.0 yes), λ under. can.2.1 ((alike can.0).0 under))),
    )

-- so it can pick a test of the binary exactly if the tree can
pub compiled_can_pick : (packages : List PackageMetadata) (binary : BinaryQuery) (default : CompiledExpr) (tree : Tree SourceSpan) (expr : CompiledExpr) → IsCompiled packages tree expr
    → ExprCanPick default expr binary ↔ TreeCanPick packages default tree binary
compiled_can_pick packages binary default tree expr is = compiled_can_be packages binary default tree expr is true

module _ {A : Type 0} (is_asked : A → Bool) (holds : A → Type 0) where
  -- a conjunction can be true exactly if both operands can
  pub both_can : (f g : Formula A) → CanBe is_asked holds (Compound Conjunction f g) true ↔ (CanBe is_asked holds f true × CanBe is_asked holds g true)
  both_can f g = (
    λ can.
        let both = can.2.0 refl in (
          (take (occurrences is_asked f) can.0, front_length is_asked holds f g can.0 can.1, (λ yes. both.0, λ under. refl)),
          (drop (occurrences is_asked f) can.0, back_length is_asked holds f g can.0 can.1, (λ yes. both.1, λ under. refl)),
        ),
    λ can. compound_can_be is_asked holds Conjunction f g true true can.0 can.1,
  )

  front_of : (f : Formula A) (xs ys : List Bool) → length xs ≡ occurrences is_asked f → TrueUnder is_asked holds f xs → TrueUnder is_asked holds f (take (occurrences is_asked f) (xs ++ ys))
  front_of f xs ys long under =
      subst (TrueUnder is_asked holds f) (sym (subst (λ n. take n (xs ++ ys) ≡ xs) long (take-append_seam xs ys))) under

  back_of : (f g : Formula A) (xs ys : List Bool) → length xs ≡ occurrences is_asked f → TrueUnder is_asked holds g ys → TrueUnder is_asked holds g (drop (occurrences is_asked f) (xs ++ ys))
  back_of f g xs ys long under =
      subst (TrueUnder is_asked holds g) (sym (subst (λ n. drop n (xs ++ ys) ≡ ys) long (drop-append_seam xs ys))) under

  left_can : (f g : Formula A) → CanBe is_asked holds f true → CanBe is_asked holds (Compound Disjunction f g) true
  left_can f g can =
      let more = replicate (occurrences is_asked g) true in
      let long : length more ≡ occurrences is_asked g = length-replicate (occurrences is_asked g) true in
      let whole : length (can.0 ++ more) ≡ occurrences is_asked f + occurrences is_asked g = omega (arith, length-append can.0 more, long, can.1) in
      (can.0 ++ more, whole, (λ yes. inl (front_of f can.0 more can.1 (can.2.0 refl)), λ under. refl))

  right_can : (f g : Formula A) → CanBe is_asked holds g true → CanBe is_asked holds (Compound Disjunction f g) true
  right_can f g can =
      let more = replicate (occurrences is_asked f) true in
      let long : length more ≡ occurrences is_asked f = length-replicate (occurrences is_asked f) true in
      let whole : length (more ++ can.0) ≡ occurrences is_asked f + occurrences is_asked g = omega (arith, length-append more can.0, long, can.1) in
      (more ++ can.0, whole, (λ yes. inr (back_of f g more can.0 long (can.2.0 refl)), λ under. refl))

  -- a disjunction can be true exactly if one operand can
  pub either_can : (f g : Formula A) → CanBe is_asked holds (Compound Disjunction f g) true ↔ (CanBe is_asked holds f true ⊎ CanBe is_asked holds g true)
  either_can f g = (
    λ can. elim (can.2.0 refl) [
      | inl under ↦ inl (take (occurrences is_asked f) can.0, front_length is_asked holds f g can.0 can.1, (λ yes. under, λ u. refl))
      | inr under ↦ inr (drop (occurrences is_asked f) can.0, back_length is_asked holds f g can.0 can.1, (λ yes. under, λ u. refl))
    ],
    λ either. elim either [ inl can ↦ left_can f g can | inr can ↦ right_can f g can ],
  )
