-- What a constant in place of an operand changes of what the whole says.
use Rattle.std.proofs.Common.{◌≡◌, ◌↔◌, Bool, true, false, List, [], ◌∷◌, replicate, refl, sym, subst, inl, inr, ⊎_elim, Option, Some, None}
use Rattle.std.specs.{Prelude.◌⊎◌, Prelude.not, Bool.IsTrue, Bool.one_answer}
use Rattle.std.proofs.lemmas.{Bool.false≢true, List.length-replicate}
use Rattle.filterset_expression.specs.BinaryMeaning.{EitherLeaf, OfTree, OfDefault, is_either_of_test, EitherOfBinary, tree_leaf_with_default, tree_with_default, PossibleOfTree}
use Rattle.filterset_expression.specs.Expression.{CompiledLeaf, HoldsOfTest, HoldsOfBinary, formula, is_of_test, Lookup}
use Rattle.filterset_expression.specs.Formula.{Formula, TrueWhere, replaced}
use Rattle.filterset_expression.specs.{Meaning.MeansOfTest, Meaning.tree_formula, Values.occurrences, Values.TrueUnder}
use Rattle.filterset_expression.specs.declared.expression.CompiledExpr.{CompiledExpr}
use Rattle.filterset_expression.specs.declared.logic.Connective.TheVariants.{Conjunction, Disjunction, ExclusiveDisjunction}
use Rattle.filterset_expression.specs.declared.query.TestQuery.{TestQuery}
use Rattle.filterset_expression.proofs.{Connectives.connects_alike, Exact.definite_answer, Exact.same_unless}
use Rattle.filterset_expression.proofs.Shapes.{truth-replaced}
use Rattle.filterset_expression.specs.Expression as compiled
use Rattle.filterset_expression.specs.Formula as formulas
use Rattle.filterset_faults.specs.declared.span.SourceSpan.{SourceSpan}
use Rattle.filterset_grammar.specs.Tree as tree
use Rattle.filterset_grammar.specs.Tree.{Leaf, Matching, Platform, Default, Tree, Not, Union, Join, Parens, Set}
use Rattle.filterset_grammar.specs.declared.operators.Joiner.TheVariants.{Both, Without, ExactlyOne}
use Rattle.filterset_grammar.specs.declared.predicate.Predicate.TheVariants.{Package, Deps, Rdeps, Kind, Binary, BinaryId, Test, Group}
use Rattle.filterset_graph.specs.declared.package.PackageMetadata.{PackageMetadata}
use Rattle.filterset_listing.specs.{Asking.Text, Asking.in_group, Asking.TreePicks, Values.HasValueIn}
use Rattle.filterset_listing.specs.Needless.{Frame, Negated, UnionLeft, UnionRight, JoinLeft, JoinRight, Enclosed, placed, constant, MayDecide, ChangesNothing}
use Rattle.filterset_listing.specs.SubjectValues.{Basis, may_be, MaySay}
use Rattle.filterset_listing.specs.declared.subjects.Subject.{Subject}
use Rattle.filterset_listing.specs.declared.explaining.candidate.Candidate.TheVariants as candidates

-- ---- what cannot fail to hold

abbrev Later : Type 0 → Type 0
Later P = ¬ (¬ P)

at_once : {P : Type 0} → P → Later P
at_once p = λ none. none p

bind : {P Q : Type 0} → Later P → (P → Later Q) → Later Q
bind later next = λ none. later (λ p. next p none)

decided : (P : Type 0) → Later ((v : Bool) × (IsTrue v ↔ P))
decided P none =
    let isnt : ¬ P = λ p. none (true, (λ e. p, λ q. refl)) in
    none (false, (λ e. absurd (false≢true e), λ p. absurd (isnt p)))

same : (P : Type 0) → P ↔ P
same P = (λ p. p, λ p. p)

not_alike : (P Q : Type 0) → P ↔ Q → (¬ P) ↔ (¬ Q)
not_alike P Q k = (λ n q. n (k.1 q), λ n p. n (k.0 p))

may_be_itself : (v : Bool) → may_be (Some v) v ≡ true
may_be_itself true = refl
may_be_itself false = refl

-- ---- what is carried from an operand to the whole

module _ (basis : Basis) (subject : Subject) (Means : Leaf SourceSpan → Type 0) where
  abbrev Says : Tree SourceSpan → Type 0
  Says e = TrueWhere Means (tree_formula e)

  module _ (may : (e : Tree SourceSpan) (v : Bool) → (IsTrue v ↔ Says e) → Later (MaySay basis subject e v)) where
    -- Of a union: where the other operand fails, the operand is heard, and where it holds, nothing is.
    or_alike : (z z' o : Tree SourceSpan) → (MaySay basis subject o false → Later (Says z ↔ Says z')) → (d : Bool) → (IsTrue d ↔ Says o)
        → Later ((Says z ⊎ Says o) ↔ (Says z' ⊎ Says o))
    or_alike z z' o h true is = at_once ((λ s. inr (is.0 refl), λ s. inr (is.0 refl)))
    or_alike z z' o h false is =
        bind (may o false is) (λ m. bind (h m) (λ k. at_once (connects_alike Disjunction (Says z) (Says o) (Says z') (Says o) k (same (Says o)))))

    turned : (P Q : Type 0) → P ⊎ Q → Q ⊎ P
    turned P Q = ⊎_elim (λ p. inr p) (λ q. inl q)

    or_alike_right : (z z' o : Tree SourceSpan) → (MaySay basis subject o false → Later (Says z ↔ Says z')) → (d : Bool) → (IsTrue d ↔ Says o)
        → Later ((Says o ⊎ Says z) ↔ (Says o ⊎ Says z'))
    or_alike_right z z' o h d is =
        bind (or_alike z z' o h d is) (λ k. at_once ((λ s. turned (Says z') (Says o) (k.0 (turned (Says o) (Says z) s)), λ s. turned (Says z) (Says o) (k.1 (turned (Says o) (Says z') s)))))

    -- of an intersection: where the other operand holds, the operand is heard, and where it fails, nothing is
    and_alike : (z z' o : Tree SourceSpan) → (MaySay basis subject o true → Later (Says z ↔ Says z')) → (d : Bool) → (IsTrue d ↔ Says o)
        → Later ((Says z × Says o) ↔ (Says z' × Says o))
    and_alike z z' o h false is =
        at_once ((λ s. absurd (false≢true (is.1 s.1)), λ s. absurd (false≢true (is.1 s.1))))
    and_alike z z' o h true is =
        bind (may o true is) (λ m. bind (h m) (λ k. at_once (connects_alike Conjunction (Says z) (Says o) (Says z') (Says o) k (same (Says o)))))

    -- of a difference likewise
    without_alike : (z z' o : Tree SourceSpan) → (MaySay basis subject o false → Later (Says z ↔ Says z')) → (d : Bool) → (IsTrue d ↔ Says o)
        → Later ((Says z × (¬ Says o)) ↔ (Says z' × (¬ Says o)))
    without_alike z z' o h true is =
        at_once ((λ s. absurd (s.1 (is.0 refl)), λ s. absurd (s.1 (is.0 refl))))
    without_alike z z' o h false is =
        bind (may o false is) (λ m. bind (h m) (λ k. at_once (connects_alike Conjunction (Says z) (¬ Says o) (Says z') (¬ Says o) k (same (¬ Says o)))))

    except_alike : (z z' o : Tree SourceSpan) → (MaySay basis subject o true → Later (Says z ↔ Says z')) → (d : Bool) → (IsTrue d ↔ Says o)
        → Later ((Says o × (¬ Says z)) ↔ (Says o × (¬ Says z')))
    except_alike z z' o h false is =
        at_once ((λ s. absurd (false≢true (is.1 s.0)), λ s. absurd (false≢true (is.1 s.0))))
    except_alike z z' o h true is =
        bind (may o true is) (λ m. bind (h m) (λ k. at_once (connects_alike Conjunction (Says o) (¬ Says z) (Says o) (¬ Says z') (same (Says o)) (not_alike (Says z) (Says z') k))))

    carried : (frames : List Frame) (z z' : Tree SourceSpan) → (MayDecide basis subject frames → Later (Says z ↔ Says z'))
        → Later (Says (placed frames z) ↔ Says (placed frames z'))
    carried [] z z' h = h tt
    carried (Negated op ∷ frames) z z' h =
        carried frames (Not op z) (Not op z') (λ decides. bind (h decides) (λ k. at_once (not_alike (Says z) (Says z') k)))
    carried (UnionLeft op o ∷ frames) z z' h =
        carried frames (Union op z o) (Union op z' o) (λ decides. bind (decided (Says o)) (λ d. or_alike z z' o (λ m. h (m, decides)) d.0 d.1))
    carried (UnionRight op o ∷ frames) z z' h =
        carried frames (Union op o z) (Union op o z') (λ decides. bind (decided (Says o)) (λ d. or_alike_right z z' o (λ m. h (m, decides)) d.0 d.1))
    carried (JoinLeft (Both op) o ∷ frames) z z' h =
        carried frames (Join (Both op) z o) (Join (Both op) z' o) (λ decides. bind (decided (Says o)) (λ d. and_alike z z' o (λ m. h (m, decides)) d.0 d.1))
    carried (JoinRight (Both op) o ∷ frames) z z' h =
        carried frames (Join (Both op) o z) (Join (Both op) o z') (λ decides. bind (decided (Says o)) (λ d. bind (and_alike z z' o (λ m. h (m, decides)) d.0 d.1) (λ k.
        at_once ((λ s. let t = k.0 (s.1, s.0) in (t.1, t.0), λ s. let t = k.1 (s.1, s.0) in (t.1, t.0))))))
    carried (JoinLeft (Without op) o ∷ frames) z z' h =
        carried frames (Join (Without op) z o) (Join (Without op) z' o) (λ decides. bind (decided (Says o)) (λ d. without_alike z z' o (λ m. h (m, decides)) d.0 d.1))
    carried (JoinRight (Without op) o ∷ frames) z z' h =
        carried frames (Join (Without op) o z) (Join (Without op) o z') (λ decides. bind (decided (Says o)) (λ d. except_alike z z' o (λ m. h (m, decides)) d.0 d.1))
    carried (JoinLeft (ExactlyOne op) o ∷ frames) z z' h =
        carried frames (Join (ExactlyOne op) z o) (Join (ExactlyOne op) z' o) (λ decides. bind (h decides) (λ k.
        at_once (connects_alike ExclusiveDisjunction (Says z) (Says o) (Says z') (Says o) k (same (Says o)))))
    carried (JoinRight (ExactlyOne op) o ∷ frames) z z' h =
        carried frames (Join (ExactlyOne op) o z) (Join (ExactlyOne op) o z') (λ decides. bind (h decides) (λ k.
        at_once (connects_alike ExclusiveDisjunction (Says o) (Says z) (Says o) (Says z') (same (Says o)) k)))
    carried (Enclosed ∷ frames) z z' h = carried frames (Parens z) (Parens z') h

    -- the constant says what the operand says, if that may not be its opposite
    only_value : (e : Tree SourceSpan) (value d : Bool) → ¬ MaySay basis subject e (not value) → (IsTrue d ↔ Says e) → Later (IsTrue value ↔ Says e)
    only_value e true true never is = at_once is
    only_value e false false never is = at_once is
    only_value e true false never is = bind (may e false is) (λ m. absurd (never m))
    only_value e false true never is = bind (may e true is) (λ m. absurd (never m))

    constant_says : (all_means : Means tree.All) (none_means : ¬ Means tree.None) (value : Bool) → IsTrue value ↔ Says (constant value)
    constant_says all_means none_means true = (λ yes. all_means, λ s. refl)
    constant_says all_means none_means false = (λ yes. absurd (false≢true yes), λ s. absurd (none_means s))

    pub alike_with : (all_means : Means tree.All) (none_means : ¬ Means tree.None) (frames : List Frame) (e : Tree SourceSpan) (value answer other : Bool)
        → ChangesNothing basis subject frames e value → (IsTrue answer ↔ Says (placed frames e)) → (IsTrue other ↔ Says (placed frames (constant value))) → answer ≡ other
    alike_with all_means none_means frames e value answer other changes is also =
        same_unless answer other (bind (carried frames e (constant value) (λ decides. bind (decided (Says e)) (λ d. bind (only_value e value d.0 (changes decides) d.1) (λ k.
        let own = constant_says all_means none_means value in
        at_once ((λ s. own.0 (k.1 s), λ s. k.0 (own.1 s)))))))
        (λ k. at_once (one_answer answer other is ((λ yes. k.1 (also.0 yes), λ s. also.1 (k.0 s))))))

  -- where what may be said is what is said, the operand is heard
  module _ (sure : (e : Tree SourceSpan) (v : Bool) → MaySay basis subject e v → (IsTrue v ↔ Says e)) where
    fails : (o : Tree SourceSpan) → MaySay basis subject o false → ¬ Says o
    fails o m = λ s. false≢true ((sure o false m).1 s)

    stands : (o : Tree SourceSpan) → MaySay basis subject o true → Says o
    stands o m = (sure o true m).0 refl

    from_or : (P Q O : Type 0) → ¬ O → (P ⊎ O) ↔ (Q ⊎ O) → P ↔ Q
    from_or P Q O fails_it k = (
      λ p. ⊎_elim (λ q. q) (λ o. absurd (fails_it o)) (k.0 (inl p)),
      λ q. ⊎_elim (λ p. p) (λ o. absurd (fails_it o)) (k.1 (inl q)),
    )

    from_or_right : (P Q O : Type 0) → ¬ O → (O ⊎ P) ↔ (O ⊎ Q) → P ↔ Q
    from_or_right P Q O fails_it k = (
      λ p. ⊎_elim (λ o. absurd (fails_it o)) (λ q. q) (k.0 (inr p)),
      λ q. ⊎_elim (λ o. absurd (fails_it o)) (λ p. p) (k.1 (inr q)),
    )

    from_not : (P Q : Type 0) → (¬ P) ↔ (¬ Q) → Later (P ↔ Q)
    from_not P Q k = bind (decided P) (λ p. bind (decided Q) (λ q. not_case P Q k p.0 q.0 p.1 q.1))
      where
        not_case : (P Q : Type 0) → (¬ P) ↔ (¬ Q) → (p q : Bool) → (IsTrue p ↔ P) → (IsTrue q ↔ Q) → Later (P ↔ Q)
        not_case P Q k true true is also = at_once ((λ x. also.0 refl, λ y. is.0 refl))
        not_case P Q k true false is also = absurd (k.1 (λ y. false≢true (also.1 y)) (is.0 refl))
        not_case P Q k false true is also = absurd (k.0 (λ x. false≢true (is.1 x)) (also.0 refl))
        not_case P Q k false false is also =
            at_once ((λ x. absurd (false≢true (is.1 x)), λ y. absurd (false≢true (also.1 y))))

    -- one of two that are alike beside a third is alike the other
    from_one : (P Q O : Type 0) → ((P × (¬ O)) ⊎ ((¬ P) × O)) ↔ ((Q × (¬ O)) ⊎ ((¬ Q) × O)) → Later (P ↔ Q)
    from_one P Q O k = bind (decided O) (λ o. one_case P Q O k o.0 o.1)
      where
        one_case : (P Q O : Type 0) → ((P × (¬ O)) ⊎ ((¬ P) × O)) ↔ ((Q × (¬ O)) ⊎ ((¬ Q) × O)) → (o : Bool) → (IsTrue o ↔ O) → Later (P ↔ Q)
        one_case P Q O k true is =
            from_not P Q ((λ p. ⊎_elim (λ s. absurd (s.1 (is.0 refl))) (λ s. s.0) (k.0 (inr (p, is.0 refl))), λ q. ⊎_elim (λ s. absurd (s.1 (is.0 refl))) (λ s. s.0) (k.1 (inr (q, is.0 refl)))))
        one_case P Q O k false is =
            let fails_it : ¬ O = λ o. false≢true (is.1 o) in
            at_once ((λ p. ⊎_elim (λ s. s.0) (λ s. absurd (fails_it s.1)) (k.0 (inl (p, fails_it))), λ q. ⊎_elim (λ s. s.0) (λ s. absurd (fails_it s.1)) (k.1 (inl (q, fails_it)))))

    swapped : (P Q : Type 0) → ((P × (¬ Q)) ⊎ ((¬ P) × Q)) ↔ ((Q × (¬ P)) ⊎ ((¬ Q) × P))
    swapped P Q = (⊎_elim (λ s. inr (s.1, s.0)) (λ s. inl (s.1, s.0)), ⊎_elim (λ s. inr (s.1, s.0)) (λ s. inl (s.1, s.0)))

    felt : (frames : List Frame) (z z' : Tree SourceSpan) → MayDecide basis subject frames → Says (placed frames z) ↔ Says (placed frames z')
        → Later (Says z ↔ Says z')
    felt [] z z' decides k = at_once k
    felt (Negated op ∷ frames) z z' decides k =
        bind (felt frames (Not op z) (Not op z') decides k) (λ j. from_not (Says z) (Says z') j)
    felt (UnionLeft op o ∷ frames) z z' decides k =
        bind (felt frames (Union op z o) (Union op z' o) decides.1 k) (λ j. at_once (from_or (Says z) (Says z') (Says o) (fails o decides.0) j))
    felt (UnionRight op o ∷ frames) z z' decides k =
        bind (felt frames (Union op o z) (Union op o z') decides.1 k) (λ j. at_once (from_or_right (Says z) (Says z') (Says o) (fails o decides.0) j))
    felt (JoinLeft (Both op) o ∷ frames) z z' decides k =
        bind (felt frames (Join (Both op) z o) (Join (Both op) z' o) decides.1 k) (λ j.
        let held = stands o decides.0 in at_once ((λ s. (j.0 (s, held)).0, λ s. (j.1 (s, held)).0)))
    felt (JoinRight (Both op) o ∷ frames) z z' decides k =
        bind (felt frames (Join (Both op) o z) (Join (Both op) o z') decides.1 k) (λ j.
        let held = stands o decides.0 in at_once ((λ s. (j.0 (held, s)).1, λ s. (j.1 (held, s)).1)))
    felt (JoinLeft (Without op) o ∷ frames) z z' decides k =
        bind (felt frames (Join (Without op) z o) (Join (Without op) z' o) decides.1 k) (λ j.
        let fails_it = fails o decides.0 in at_once ((λ s. (j.0 (s, fails_it)).0, λ s. (j.1 (s, fails_it)).0)))
    felt (JoinRight (Without op) o ∷ frames) z z' decides k =
        bind (felt frames (Join (Without op) o z) (Join (Without op) o z') decides.1 k) (λ j.
        let held = stands o decides.0 in from_not (Says z) (Says z') ((λ s. (j.0 (held, s)).1, λ s. (j.1 (held, s)).1)))
    felt (JoinLeft (ExactlyOne op) o ∷ frames) z z' decides k =
        bind (felt frames (Join (ExactlyOne op) z o) (Join (ExactlyOne op) z' o) decides k) (λ j. from_one (Says z) (Says z') (Says o) j)
    felt (JoinRight (ExactlyOne op) o ∷ frames) z z' decides k =
        bind (felt frames (Join (ExactlyOne op) o z) (Join (ExactlyOne op) o z') decides k) (λ j.
        let one = swapped (Says o) (Says z) in
        let other = swapped (Says o) (Says z') in
        from_one (Says z) (Says z') (Says o) ((λ s. other.0 (j.0 (one.1 s)), λ s. one.0 (j.1 (other.1 s)))))
    felt (Enclosed ∷ frames) z z' decides k = felt frames (Parens z) (Parens z') decides k

    both_ways : (value : Bool) (P Q : Type 0) → (IsTrue (not value) ↔ P) → (IsTrue value ↔ Q) → P ↔ Q → ⊥
    both_ways true P Q is also k = false≢true (is.1 (k.1 (also.0 refl)))
    both_ways false P Q is also k = false≢true (also.1 (k.0 (is.0 refl)))

    pub changes_nothing : (all_means : Means tree.All) (none_means : ¬ Means tree.None) (frames : List Frame) (e : Tree SourceSpan) (value answer : Bool)
        → (IsTrue answer ↔ Says (placed frames e)) → (IsTrue answer ↔ Says (placed frames (constant value))) → ChangesNothing basis subject frames e value
    changes_nothing all_means none_means frames e value answer is also decides says =
        felt frames e (constant value) decides ((λ s. also.0 (is.1 s), λ s. is.0 (also.1 s)))
        (λ k. both_ways value (Says e) (Says (constant value)) (sure e (not value) says) (constant_is all_means none_means value) k)
      where
        constant_is : Means tree.All → ¬ Means tree.None → (b : Bool) → IsTrue b ↔ Says (constant b)
        constant_is all none true = (λ yes. all, λ s. refl)
        constant_is all none false = (λ yes. absurd (false≢true yes), λ s. absurd (none s))

-- ---- tests

module _ (basis : Basis) (subject : Subject) (query : TestQuery) (is : subject.candidate ≡ candidates.Test query) where
  abbrev OfTest : Leaf SourceSpan → Type 0
  OfTest leaf = MeansOfTest basis.packages query basis.default (in_group subject.group.now) leaf

  test_may : (e : Tree SourceSpan) (v : Bool) → (IsTrue v ↔ TrueWhere OfTest (tree_formula e)) → Later (MaySay basis subject e v)
  test_may e v says =
      at_once (Some v, subst (λ s. HasValueIn subject.group.now s basis.packages basis.default e (Some v)) (sym is) says, may_be_itself v)

  one_of_bools : (w v : Bool) → may_be (Some w) v ≡ true → w ≡ v
  one_of_bools true true e = refl
  one_of_bools true false e = sym e
  one_of_bools false true e = e
  one_of_bools false false e = refl

  sure_case : (e : Tree SourceSpan) (v : Bool) (x : Option Bool) → HasValueIn subject.group.now (candidates.Test query) basis.packages basis.default e x
      → may_be x v ≡ true → (IsTrue v ↔ TrueWhere OfTest (tree_formula e))
  sure_case e v (Some w) has may = subst (λ b. IsTrue b ↔ TrueWhere OfTest (tree_formula e)) (one_of_bools w v may) has
  sure_case e v None has may = absurd has

  test_sure : (e : Tree SourceSpan) (v : Bool) → MaySay basis subject e v → (IsTrue v ↔ TrueWhere OfTest (tree_formula e))
  test_sure e v m =
      sure_case e v m.0 (subst (λ s. HasValueIn subject.group.now s basis.packages basis.default e m.0) is m.1) m.2

  pub test_alike : (frames : List Frame) (e : Tree SourceSpan) (value answer other : Bool) → ChangesNothing basis subject frames e value
      → (IsTrue answer ↔ TreePicks basis.packages basis.default (placed frames e) query subject.group.now)
      → (IsTrue other ↔ TreePicks basis.packages basis.default (placed frames (constant value)) query subject.group.now) → answer ≡ other
  test_alike frames e value answer other changes says also =
      alike_with basis subject OfTest test_may tt (λ h. h) frames e value answer other changes says also

  pub test_exact : (frames : List Frame) (e : Tree SourceSpan) (value answer : Bool)
      → (IsTrue answer ↔ TreePicks basis.packages basis.default (placed frames e) query subject.group.now)
      → (IsTrue answer ↔ TreePicks basis.packages basis.default (placed frames (constant value)) query subject.group.now)
      → ChangesNothing basis subject frames e value
  test_exact frames e value answer says also =
      changes_nothing basis subject OfTest test_sure tt (λ h. h) frames e value answer says also

-- ---- tests of binaries whose tests are unknown

truth_alike : {A : Type 0} (P Q : A → Type 0) → ((leaf : A) → P leaf ↔ Q leaf) → (f : Formula A) → TrueWhere P f ↔ TrueWhere Q f
truth_alike P Q at (formulas.Leaf leaf) = at leaf
truth_alike P Q at (formulas.Negation f) = not_alike (TrueWhere P f) (TrueWhere Q f) (truth_alike P Q at f)
truth_alike P Q at (formulas.Compound c f g) =
    connects_alike c (TrueWhere P f) (TrueWhere P g) (TrueWhere Q f) (TrueWhere Q g) (truth_alike P Q at f) (truth_alike P Q at g)

module _ (packages : List PackageMetadata) (default : CompiledExpr) (query : TestQuery) (group : Text) where
  -- what leaves of a tree with the default filter say of the test
  abbrev OfEither : EitherLeaf SourceSpan → Type 0
  OfEither (OfTree (Default s)) = ⊥
  OfEither (OfTree leaf) = MeansOfTest packages query default (in_group group) leaf
  OfEither (OfDefault leaf) = HoldsOfTest query (in_group group) leaf

  agree : (leaf : EitherLeaf SourceSpan) → is_either_of_test leaf ≡ false → EitherOfBinary packages query.binary_query leaf ↔ OfEither leaf
  agree (OfTree (Matching Package m s)) e = same _
  agree (OfTree (Matching Deps m s)) e = same _
  agree (OfTree (Matching Rdeps m s)) e = same _
  agree (OfTree (Matching Kind m s)) e = same _
  agree (OfTree (Matching Binary m s)) e = same _
  agree (OfTree (Matching BinaryId m s)) e = same _
  agree (OfTree (Matching Test m s)) e = absurd (false≢true (sym e))
  agree (OfTree (Matching Group m s)) e = absurd (false≢true (sym e))
  agree (OfTree (Platform p s)) e = same _
  agree (OfTree (Default s)) e = same _
  agree (OfTree tree.All) e = same _
  agree (OfTree tree.None) e = same _
  agree (OfDefault (compiled.Packages ids)) e = same _
  agree (OfDefault (compiled.Kind m s)) e = same _
  agree (OfDefault (compiled.Binary m s)) e = same _
  agree (OfDefault (compiled.BinaryId m s)) e = same _
  agree (OfDefault (compiled.Test m s)) e = absurd (false≢true (sym e))
  agree (OfDefault (compiled.Group m s)) e = absurd (false≢true (sym e))
  agree (OfDefault (compiled.Platform p s)) e = same _
  agree (OfDefault compiled.Default) e = same _
  agree (OfDefault compiled.All) e = same _
  agree (OfDefault compiled.None) e = same _

  leaf_with_default : (leaf : Leaf SourceSpan) → MeansOfTest packages query default (in_group group) leaf ↔ TrueWhere OfEither (tree_leaf_with_default default leaf)
  leaf_with_default (Matching Package m s) = same _
  leaf_with_default (Matching Deps m s) = same _
  leaf_with_default (Matching Rdeps m s) = same _
  leaf_with_default (Matching Kind m s) = same _
  leaf_with_default (Matching Binary m s) = same _
  leaf_with_default (Matching BinaryId m s) = same _
  leaf_with_default (Matching Test m s) = same _
  leaf_with_default (Matching Group m s) = same _
  leaf_with_default (Platform p s) = same _
  leaf_with_default (Default s) =
      subst (λ (P : Type 0). TrueWhere (HoldsOfTest query (in_group group)) (formula default) ↔ P) (sym (truth-replaced OfEither (λ leaf. formulas.Leaf (OfDefault leaf)) (formula default))) (same _)
  leaf_with_default tree.All = same _
  leaf_with_default tree.None = same _

  with_default_says : (e : Tree SourceSpan) → TrueWhere (MeansOfTest packages query default (in_group group)) (tree_formula e) ↔ TrueWhere OfEither (tree_with_default default e)
  with_default_says e =
      subst (λ (P : Type 0). TrueWhere (MeansOfTest packages query default (in_group group)) (tree_formula e) ↔ P) (sym (truth-replaced OfEither (tree_leaf_with_default default) (tree_formula e)))
      (truth_alike (MeansOfTest packages query default (in_group group)) (λ leaf. TrueWhere OfEither (tree_leaf_with_default default leaf)) leaf_with_default (tree_formula e))

  some_value : (e : Tree SourceSpan) → Later ((v : Bool) × PossibleOfTree e packages query.binary_query default v)
  some_value e =
      let f = tree_with_default default e in
      let answers = replicate (occurrences is_either_of_test f) true in
      bind (decided (TrueUnder is_either_of_test (EitherOfBinary packages query.binary_query) f answers)) (λ d. at_once (d.0, (answers, length-replicate _ _, d.1)))

  value_case : (e : Tree SourceSpan) (a b : Bool) → (IsTrue a ↔ PossibleOfTree e packages query.binary_query default true)
      → (IsTrue b ↔ PossibleOfTree e packages query.binary_query default false)
      → Later ((x : Option Bool) × HasValueIn group (candidates.Binary query.binary_query) packages default e x)
  value_case e true true h k = at_once (None, (h.0 refl, k.0 refl))
  value_case e true false h k = at_once (Some true, elim [ true ↦ (λ p. refl, λ s. h.0 refl) | false ↦ (λ p. absurd (false≢true (k.1 p)), λ s. absurd (false≢true s)) ])
  value_case e false true h k = at_once (Some false, elim [ true ↦ (λ p. absurd (false≢true (h.1 p)), λ s. absurd (false≢true (sym s))) | false ↦ (λ p. refl, λ s. k.0 refl) ])
  value_case e false false h k = bind (some_value e) (λ v. absurd (no_value v.0 v.1))
    where
      no_value : (v : Bool) → PossibleOfTree e packages query.binary_query default v → ⊥
      no_value true p = false≢true (h.1 p)
      no_value false p = false≢true (k.1 p)

  has_value : (e : Tree SourceSpan) → Later ((x : Option Bool) × HasValueIn group (candidates.Binary query.binary_query) packages default e x)
  has_value e =
      bind (decided (PossibleOfTree e packages query.binary_query default true)) (λ a. bind (decided (PossibleOfTree e packages query.binary_query default false)) (λ b. value_case e a.0 b.0 a.1 b.1))

  may_case : (e : Tree SourceSpan) (v : Bool) (x : Option Bool) → HasValueIn group (candidates.Binary query.binary_query) packages default e x
      → (IsTrue v ↔ TrueWhere OfEither (tree_with_default default e)) → may_be x v ≡ true
  may_case e v None has says = refl
  may_case e v (Some w) has says =
      subst (λ b. may_be (Some w) b ≡ true) (sym (definite_answer is_either_of_test (EitherOfBinary packages query.binary_query) OfEither agree (tree_with_default default e) w v has says)) (may_be_itself w)

module _ (basis : Basis) (subject : Subject) (query : TestQuery) (group : Text) (is : subject.candidate ≡ candidates.Binary query.binary_query) where
  abbrev OfUnknown : Leaf SourceSpan → Type 0
  OfUnknown leaf = MeansOfTest basis.packages query basis.default (in_group group) leaf

  -- what holds of a binary holds in every group
  in_any : (e : Tree SourceSpan) (x : Option Bool) → HasValueIn group (candidates.Binary query.binary_query) basis.packages basis.default e x
      → HasValueIn subject.group.now (candidates.Binary query.binary_query) basis.packages basis.default e x
  in_any e (Some b) has = has
  in_any e None has = has

  unknown_may : (e : Tree SourceSpan) (v : Bool) → (IsTrue v ↔ TrueWhere OfUnknown (tree_formula e)) → Later (MaySay basis subject e v)
  unknown_may e v says =
      bind (has_value basis.packages basis.default query group e) (λ h.
      let own = with_default_says basis.packages basis.default query group e in
      at_once (
        h.0,
        subst (λ s. HasValueIn subject.group.now s basis.packages basis.default e h.0) (sym is) (in_any e h.0 h.1),
        may_case basis.packages basis.default query group e v h.0 h.1 ((λ yes. own.0 (says.0 yes), λ s. says.1 (own.1 s))),
      ))

  pub binary_alike : (frames : List Frame) (e : Tree SourceSpan) (value answer other : Bool) → ChangesNothing basis subject frames e value
      → (IsTrue answer ↔ TreePicks basis.packages basis.default (placed frames e) query group)
      → (IsTrue other ↔ TreePicks basis.packages basis.default (placed frames (constant value)) query group) → answer ≡ other
  binary_alike frames e value answer other changes says also =
      alike_with basis subject OfUnknown unknown_may tt (λ h. h) frames e value answer other changes says also
