-- Compiled expressions are equal exactly where the same is compared of them, and so their equality is an equivalence.
use Rattle.std.specs.Prelude.{◌≡◌, ◌&&◌, Bool, true, refl}
use Rattle.std.specs.{Bool.Decides, Bool.one_answer, Cmp.IsEquivalence, Cmp.Lexicographic.pointwise_decides}
use Rattle.std.proofs.Common.{arith, ap, sym, subst, ◌∙◌}
use Rattle.std.proofs.lemmas.{Bool.and_parts, Bool.false≢true, Slice.Eq.bytes_eq-Decides, Bool.Decides.nat_tests}
use Rattle.filterset_faults.specs.declared.span.SourceSpan.{SourceSpan}
use Rattle.filterset_grammar.specs.Equality.{compared_matcher, same_platform, same_span}
use Rattle.filterset_grammar.specs.EqualityLaws.{alike, alike_Decides, alike_equiv, kept_matcher, same_platform_Decides, same_span_Decides}
use Rattle.filterset_matchers.specs.{Equality.same_compared, Matcher.Matcher}
use Rattle.filterset_expression.specs.Connectives.{Connective, same_connective}
use Rattle.filterset_expression.specs.Equality.{same_compiled_leaf, same_formula, compared_compiled, compared_formula}
use Rattle.filterset_expression.specs.Expression.{CompiledLeaf, Packages, Kind, Platform, Binary, BinaryId, Test, Group, Default, All, None}
use Rattle.filterset_expression.specs.Formula.{Formula, Leaf, Negation, Compound}

-- a test that says whether the same is compared of two is an equivalence
by_compared : {K J : Type 0} (f : K → J) (test : K → K → Bool)
    → ((a b : K) → Decides (test a b) (f a ≡ f b)) → IsEquivalence test
by_compared f test d = record {
  refl = λ a. (d a a).1 refl;
  symm = λ a b. one_answer (test a b) (test b a) (d a b) (λ e. sym ((d b a).0 e), λ e. (d b a).1 (sym e));
  congr = λ a b c e.
      one_answer (test a c) (test b c) (d a c) (λ h. (d a b).0 e ∙ (d b c).0 h, λ h. (d b c).1 (sym ((d a b).0 e) ∙ h));
}

-- a matcher at a span: the fields of a leaf with a matcher
at_is : (f : Matcher → SourceSpan → CompiledLeaf) (m n : Matcher) (s t : SourceSpan)
    → (alike m n && same_span s t) ≡ true
    → f (compared_matcher m) s ≡ f (compared_matcher n) t
at_is f m n s t h =
    let parts = and_parts (alike m n) (same_span s t) h in
    λ i. f ((alike_Decides m n).0 parts.0 i) ((same_span_Decides s t).0 parts.1 i)

at_self : (m : Matcher) (s : SourceSpan) → (alike m m && same_span s s) ≡ true
at_self m s = λ i. alike_equiv.refl m i && (same_span_Decides s s).1 refl i

at_kept : (m n : Matcher) (s t : SourceSpan)
    → (alike (compared_matcher m) (compared_matcher n) && same_span s t) ≡ (alike m n && same_span s t)
at_kept m n s t = λ i. same_compared (kept_matcher m i) (kept_matcher n i) && same_span s t

leaf_is : (a b : CompiledLeaf) → same_compiled_leaf a b ≡ true → compared_compiled a ≡ compared_compiled b
leaf_is (Packages ids) (Packages others) h = ap Packages ((pointwise_decides bytes_eq-Decides ids others).0 h)
leaf_is (Kind m s) (Kind n t) h = at_is Kind m n s t h
leaf_is (Platform p s) (Platform q t) h =
    let parts = and_parts (same_platform p q) (same_span s t) h in
    λ i. Platform ((same_platform_Decides p q).0 parts.0 i) ((same_span_Decides s t).0 parts.1 i)
leaf_is (Binary m s) (Binary n t) h = at_is Binary m n s t h
leaf_is (BinaryId m s) (BinaryId n t) h = at_is BinaryId m n s t h
leaf_is (Test m s) (Test n t) h = at_is Test m n s t h
leaf_is (Group m s) (Group n t) h = at_is Group m n s t h
leaf_is Default Default h = refl
leaf_is All All h = refl
leaf_is None None h = refl
leaf_is _ _ h = absurd (false≢true h)

leaf_self : (a : CompiledLeaf) → same_compiled_leaf a a ≡ true
leaf_self (Packages ids) = (pointwise_decides bytes_eq-Decides ids ids).1 refl
leaf_self (Kind m s) = at_self m s
leaf_self (Platform p s) = λ i. (same_platform_Decides p p).1 refl i && (same_span_Decides s s).1 refl i
leaf_self (Binary m s) = at_self m s
leaf_self (BinaryId m s) = at_self m s
leaf_self (Test m s) = at_self m s
leaf_self (Group m s) = at_self m s
leaf_self Default = refl
leaf_self All = refl
leaf_self None = refl

leaf_kept : (a b : CompiledLeaf)
    → same_compiled_leaf (compared_compiled a) (compared_compiled b) ≡ same_compiled_leaf a b
leaf_kept (Kind m s) (Kind n t) = at_kept m n s t
leaf_kept (Binary m s) (Binary n t) = at_kept m n s t
leaf_kept (BinaryId m s) (BinaryId n t) = at_kept m n s t
leaf_kept (Test m s) (Test n t) = at_kept m n s t
leaf_kept (Group m s) (Group n t) = at_kept m n s t
leaf_kept (Packages ids) (Packages others) = refl
leaf_kept (Platform p s) (Platform q t) = refl
leaf_kept Default Default = refl
leaf_kept All All = refl
leaf_kept None None = refl
leaf_kept _ _ = refl

pub same_compiled_leaf_Decides : (a b : CompiledLeaf)
    → Decides (same_compiled_leaf a b) (compared_compiled a ≡ compared_compiled b)
same_compiled_leaf_Decides a b =
    let self = leaf_self (compared_compiled a) in
    (leaf_is a b, λ e. sym (leaf_kept a b) ∙ subst (λ c. same_compiled_leaf (compared_compiled a) c ≡ true) e self)

pub same_compiled_leaf_equiv : IsEquivalence same_compiled_leaf
same_compiled_leaf_equiv = by_compared compared_compiled same_compiled_leaf same_compiled_leaf_Decides

pub connective_is : (c d : Connective) → same_connective c d ≡ true → c ≡ d
connective_is c d h = grind (arith, nat_tests)

pub connective_self : (c : Connective) → same_connective c c ≡ true
connective_self c = grind (arith, nat_tests)

-- whether compiled expressions are equal
abbrev same : Formula CompiledLeaf → Formula CompiledLeaf → Bool
same = same_formula same_compiled_leaf

formula_is : (f g : Formula CompiledLeaf) → same f g ≡ true → compared_formula f ≡ compared_formula g
formula_is (Leaf a) (Leaf b) h = ap Leaf (leaf_is a b h)
formula_is (Negation f) (Negation g) h = ap Negation (formula_is f g h)
formula_is (Compound c f f') (Compound d g g') h =
    let parts = and_parts (same_connective c d && same f g) (same f' g') h in
    let first = and_parts (same_connective c d) (same f g) parts.0 in
    λ i. Compound (connective_is c d first.0 i) (formula_is f g first.1 i) (formula_is f' g' parts.1 i)
formula_is _ _ h = absurd (false≢true h)

formula_self : (f : Formula CompiledLeaf) → same f f ≡ true
formula_self (Leaf a) = leaf_self a
formula_self (Negation f) = formula_self f
formula_self (Compound c f g) = λ i. connective_self c i && formula_self f i && formula_self g i

formula_kept : (f g : Formula CompiledLeaf) → same (compared_formula f) (compared_formula g) ≡ same f g
formula_kept (Leaf a) (Leaf b) = leaf_kept a b
formula_kept (Negation f) (Negation g) = formula_kept f g
formula_kept (Compound c f f') (Compound d g g') =
    λ i. same_connective c d && formula_kept f g i && formula_kept f' g' i
formula_kept _ _ = refl

pub same_formula_Decides : (f g : Formula CompiledLeaf)
    → Decides (same_formula same_compiled_leaf f g) (compared_formula f ≡ compared_formula g)
same_formula_Decides f g =
    let self = formula_self (compared_formula f) in
    (formula_is f g, λ e. sym (formula_kept f g) ∙ subst (λ c. same (compared_formula f) c ≡ true) e self)

pub same_formula_equiv : IsEquivalence (same_formula same_compiled_leaf)
same_formula_equiv = by_compared compared_formula (same_formula same_compiled_leaf) same_formula_Decides
