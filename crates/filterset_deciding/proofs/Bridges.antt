-- What is left of a tree says of every test and every binary what the tree says.
use Rattle.std.proofs.Common.{◌≡◌, ◌↔◌, Bool, true, false, List, [], length, take, drop, replicate, refl, sym, ◌∙◌, ap, subst, Option, Some, None}
use Rattle.std.specs.{Prelude.not, Prelude.IsTrue, Bool.one_answer}
use Rattle.std.proofs.{lemmas.Bool.false≢true, lemmas.List.length-replicate, Math.Bool.not-not}
use Rattle.filterset_expression.proofs.Connectives.{connected_decides}
use Rattle.filterset_expression.proofs.Exact.{compound_can_be, front_length, back_length, same_unless}
use Rattle.filterset_expression.proofs.Folding.{decides_not}
use Rattle.filterset_expression.specs.BinaryMeaning.{EitherLeaf, is_either_of_test, EitherOfBinary, tree_leaf_with_default, tree_with_default, IsDefiniteTree, IsUndecidedTree}
use Rattle.filterset_expression.specs.{Connectives.connected, Expression.Lookup}
use Rattle.filterset_expression.specs.Formula.{Formula, Negation, Compound, TrueWhere}
use Rattle.filterset_expression.specs.Meaning.{tree_formula, MeansOfBinary, MeansOfTest}
use Rattle.filterset_expression.specs.Values.{occurrences, TrueUnder, CanBe}
use Rattle.filterset_expression.specs.declared.{expression.CompiledExpr.CompiledExpr, logic.Connective.Connective}
use Rattle.filterset_expression.specs.declared.logic.Connective.TheVariants.{Conjunction, Disjunction, ExclusiveDisjunction}
use Rattle.filterset_expression.specs.declared.query.{BinaryQuery.BinaryQuery, TestQuery.TestQuery}
use Rattle.filterset_grammar.specs.Tree as tree
use Rattle.filterset_grammar.specs.Tree.{Leaf, Matching, Platform, Default, Tree, Not, Union, Join, Parens, Set}
use Rattle.filterset_grammar.specs.declared.operators.Joiner.TheVariants.{Both, Without, ExactlyOne}
use Rattle.filterset_grammar.specs.declared.predicate.Predicate.TheVariants.{Package, Deps, Rdeps, Kind, Binary, BinaryId, Test, Group}
use Rattle.filterset_graph.specs.declared.package.PackageMetadata.{PackageMetadata}
use Rattle.filterset_deciding.specs.Simplifying.Alike.{alike_leaves}
use Rattle.filterset_deciding.specs.Simplifying.Answers.{PickAlike, IsBinaryAnswer, KeepsDecided}
use Rattle.filterset_deciding.specs.Simplifying.Reducing.{reduced, tree_of_rest}
use Rattle.filterset_deciding.proofs.Later.{Later, at_once, bind, decided}
use Rattle.filterset_deciding.proofs.{Leaves.binary_alike, Leaves.test_alike, Resting.reduced_takes, Taking.Takes}

-- the value whose negation says that a proposition fails
turned_value : (P : Type 0) (d v : Bool) → (IsTrue d ↔ P) → (IsTrue v ↔ (¬ P)) → d ≡ not v
turned_value P d v is isnt = sym (not-not d) ∙ ap not (one_answer (not d) v (decides_not d P is) isnt)

-- the values of constants
all_value : (v : Bool) → (IsTrue v ↔ Unit {0}) ↔ (v ≡ true)
all_value v = (λ t. t.1 tt, λ e. (λ yes. tt, λ h. e))

none_value : (v : Bool) → (IsTrue v ↔ ⊥) ↔ (v ≡ false)
none_value true = (λ t. absurd (t.0 refl), λ e. absurd (false≢true (sym e)))
none_value false = (λ t. refl, λ e. (λ yes. absurd (false≢true yes), λ h. absurd h))

all_can : (v : Bool) → ((answers : List Bool) × (length answers ≡ 0) × (IsTrue v ↔ Unit {0})) ↔ (v ≡ true)
all_can v = (λ c. (all_value v).0 c.2, λ e. ([], refl, (all_value v).1 e))

none_can : (v : Bool) → ((answers : List Bool) × (length answers ≡ 0) × (IsTrue v ↔ ⊥)) ↔ (v ≡ false)
none_can v = (λ c. (none_value v).0 c.2, λ e. ([], refl, (none_value v).1 e))

-- ---- tests

module _ {S : Type 0} (packages : List PackageMetadata) (test : TestQuery) (default : CompiledExpr) (lookup : Lookup) where
  abbrev Means : Leaf S → Type 0
  Means leaf = MeansOfTest packages test default lookup leaf

  abbrev Answers : Leaf S → Bool → Type 0
  Answers leaf v = IsTrue v ↔ Means leaf

  takes_means : (e : Tree S) (v : Bool) → Takes Answers e v → (IsTrue v ↔ TrueWhere Means (tree_formula e))
  takes_means (Not op e) v t =
      subst (λ b. IsTrue b ↔ (¬ TrueWhere Means (tree_formula e))) (not-not v) (decides_not (not v) (TrueWhere Means (tree_formula e)) (takes_means e (not v) t))
  takes_means (Union op l r) v t =
      subst (λ b. IsTrue b ↔ TrueWhere Means (tree_formula (Union op l r))) t.4 (connected_decides Disjunction t.0 t.1 (TrueWhere Means (tree_formula l)) (TrueWhere Means (tree_formula r)) (takes_means l t.0 t.2) (takes_means r t.1 t.3))
  takes_means (Join (Both op) l r) v t =
      subst (λ b. IsTrue b ↔ TrueWhere Means (tree_formula (Join (Both op) l r))) t.4 (connected_decides Conjunction t.0 t.1 (TrueWhere Means (tree_formula l)) (TrueWhere Means (tree_formula r)) (takes_means l t.0 t.2) (takes_means r t.1 t.3))
  takes_means (Join (Without op) l r) v t =
      subst (λ b. IsTrue b ↔ TrueWhere Means (tree_formula (Join (Without op) l r))) t.4 (connected_decides Conjunction t.0 (not t.1) (TrueWhere Means (tree_formula l)) (¬ TrueWhere Means (tree_formula r)) (takes_means l t.0 t.2) (decides_not t.1 (TrueWhere Means (tree_formula r)) (takes_means r t.1 t.3)))
  takes_means (Join (ExactlyOne op) l r) v t =
      subst (λ b. IsTrue b ↔ TrueWhere Means (tree_formula (Join (ExactlyOne op) l r))) t.4 (connected_decides ExclusiveDisjunction t.0 t.1 (TrueWhere Means (tree_formula l)) (TrueWhere Means (tree_formula r)) (takes_means l t.0 t.2) (takes_means r t.1 t.3))
  takes_means (Parens e) v t = takes_means e v t
  takes_means (Set leaf) v t = t

  means_takes : (e : Tree S) (v : Bool) → (IsTrue v ↔ TrueWhere Means (tree_formula e)) → Later (Takes Answers e v)
  means_takes (Not op e) v is =
      bind (decided (TrueWhere Means (tree_formula e))) (λ d. bind (means_takes e d.0 d.1) (λ t.
      at_once (subst (λ b. Takes Answers e b) (turned_value (TrueWhere Means (tree_formula e)) d.0 v d.1 is) t)))
  means_takes (Union op l r) v is =
      bind (decided (TrueWhere Means (tree_formula l))) (λ a. bind (decided (TrueWhere Means (tree_formula r))) (λ b. bind (means_takes l a.0 a.1) (λ t. bind (means_takes r b.0 b.1) (λ u.
      at_once (a.0, b.0, t, u, one_answer (connected Disjunction a.0 b.0) v (connected_decides Disjunction a.0 b.0 (TrueWhere Means (tree_formula l)) (TrueWhere Means (tree_formula r)) a.1 b.1) is)))))
  means_takes (Join (Both op) l r) v is =
      bind (decided (TrueWhere Means (tree_formula l))) (λ a. bind (decided (TrueWhere Means (tree_formula r))) (λ b. bind (means_takes l a.0 a.1) (λ t. bind (means_takes r b.0 b.1) (λ u.
      at_once (a.0, b.0, t, u, one_answer (connected Conjunction a.0 b.0) v (connected_decides Conjunction a.0 b.0 (TrueWhere Means (tree_formula l)) (TrueWhere Means (tree_formula r)) a.1 b.1) is)))))
  means_takes (Join (Without op) l r) v is =
      bind (decided (TrueWhere Means (tree_formula l))) (λ a. bind (decided (TrueWhere Means (tree_formula r))) (λ b. bind (means_takes l a.0 a.1) (λ t. bind (means_takes r b.0 b.1) (λ u.
      at_once (a.0, b.0, t, u, one_answer (connected Conjunction a.0 (not b.0)) v (connected_decides Conjunction a.0 (not b.0) (TrueWhere Means (tree_formula l)) (¬ TrueWhere Means (tree_formula r)) a.1 (decides_not b.0 (TrueWhere Means (tree_formula r)) b.1)) is)))))
  means_takes (Join (ExactlyOne op) l r) v is =
      bind (decided (TrueWhere Means (tree_formula l))) (λ a. bind (decided (TrueWhere Means (tree_formula r))) (λ b. bind (means_takes l a.0 a.1) (λ t. bind (means_takes r b.0 b.1) (λ u.
      at_once (a.0, b.0, t, u, one_answer (connected ExclusiveDisjunction a.0 b.0) v (connected_decides ExclusiveDisjunction a.0 b.0 (TrueWhere Means (tree_formula l)) (TrueWhere Means (tree_formula r)) a.1 b.1) is)))))
  means_takes (Parens e) v is = means_takes e v is
  means_takes (Set leaf) v is = at_once is

  answers_alike : (l m : Leaf S) → alike_leaves l m ≡ true → (v : Bool) → Answers l v ↔ Answers m v
  answers_alike l m e v =
      let k = test_alike packages test default lookup l m e in
      (λ t. (λ yes. k.0 (t.0 yes), λ h. t.1 (k.1 h)), λ t. (λ yes. k.1 (t.0 yes), λ h. t.1 (k.0 h)))

  one_pick : (e : Tree S) (answer other : Bool) → (IsTrue answer ↔ TrueWhere Means (tree_formula e))
      → (IsTrue other ↔ TrueWhere Means (tree_formula (tree_of_rest (reduced e)))) → answer ≡ other
  one_pick e answer other is also =
      same_unless answer other (
      bind (means_takes (tree_of_rest (reduced e)) other also) (λ left. bind (reduced_takes Answers (λ leaf. decided (Means leaf)) answers_alike all_value none_value e other left) (λ t.
      at_once (one_answer answer other is (takes_means e other t)))))

pub picks_alike : {S : Type 0} (e : Tree S) → PickAlike e (tree_of_rest (reduced e))
picks_alike e packages test default lookup answer other is also =
    one_pick packages test default (λ t m. IsTrue (lookup t m)) e answer other is also

-- ---- binaries

module _ {A : Type 0} (is_asked : A → Bool) (holds : A → Type 0) where
  not_can : (f : Formula A) (v : Bool) → CanBe is_asked holds f (not v) → CanBe is_asked holds (Negation f) v
  not_can f v can =
      (can.0, can.1, subst (λ b. IsTrue b ↔ (¬ TrueUnder is_asked holds f can.0)) (not-not v) (decides_not (not v) (TrueUnder is_asked holds f can.0) can.2))

  can_not : (f : Formula A) (v : Bool) → CanBe is_asked holds (Negation f) v → Later (CanBe is_asked holds f (not v))
  can_not f v can =
      bind (decided (TrueUnder is_asked holds f can.0)) (λ d.
      at_once (can.0, can.1, subst (λ b. IsTrue b ↔ TrueUnder is_asked holds f can.0) (turned_value (TrueUnder is_asked holds f can.0) d.0 v d.1 can.2) d.1))

  can_compound : (c : Connective) (f g : Formula A) (v : Bool) → CanBe is_asked holds (Compound c f g) v
      → Later ((x : Bool) × (y : Bool) × CanBe is_asked holds f x × CanBe is_asked holds g y × (connected c x y ≡ v))
  can_compound c f g v can =
      let front = take (occurrences is_asked f) can.0 in
      let back = drop (occurrences is_asked f) can.0 in
      bind (decided (TrueUnder is_asked holds f front)) (λ a. bind (decided (TrueUnder is_asked holds g back)) (λ b.
      at_once (a.0, b.0, (front, front_length is_asked holds f g can.0 can.1, a.1), (back, back_length is_asked holds f g can.0 can.1, b.1), one_answer (connected c a.0 b.0) v (connected_decides c a.0 b.0 (TrueUnder is_asked holds f front) (TrueUnder is_asked holds g back) a.1 b.1) can.2)))

  can_some : (f : Formula A) → Later ((v : Bool) × CanBe is_asked holds f v)
  can_some f =
      let answers = replicate (occurrences is_asked f) true in
      bind (decided (TrueUnder is_asked holds f answers)) (λ d. at_once (d.0, (answers, length-replicate _ _, d.1)))

module _ {S : Type 0} (packages : List PackageMetadata) (binary : BinaryQuery) (default : CompiledExpr) where
  abbrev Holds : EitherLeaf S → Type 0
  Holds = EitherOfBinary packages binary

  abbrev Possible : Tree S → Bool → Type 0
  Possible e v = CanBe is_either_of_test Holds (tree_with_default default e) v

  abbrev Can : Leaf S → Bool → Type 0
  Can leaf v = CanBe is_either_of_test Holds (tree_leaf_with_default default leaf) v

  joined_possible : (c : Connective) (f g : Formula (EitherLeaf S)) (x y v : Bool) → CanBe is_either_of_test Holds f x
      → CanBe is_either_of_test Holds g y → connected c x y ≡ v → CanBe is_either_of_test Holds (Compound c f g) v
  joined_possible c f g x y v p q e =
      subst (λ b. CanBe is_either_of_test Holds (Compound c f g) b) e (compound_can_be is_either_of_test Holds c f g x y p q)

  takes_possible : (e : Tree S) (v : Bool) → Takes Can e v → Possible e v
  takes_possible (Not op e) v t = not_can is_either_of_test Holds (tree_with_default default e) v (takes_possible e (not v) t)
  takes_possible (Union op l r) v t =
      joined_possible Disjunction (tree_with_default default l) (tree_with_default default r) t.0 t.1 v (takes_possible l t.0 t.2) (takes_possible r t.1 t.3) t.4
  takes_possible (Join (Both op) l r) v t =
      joined_possible Conjunction (tree_with_default default l) (tree_with_default default r) t.0 t.1 v (takes_possible l t.0 t.2) (takes_possible r t.1 t.3) t.4
  takes_possible (Join (Without op) l r) v t =
      joined_possible Conjunction (tree_with_default default l) (Negation (tree_with_default default r)) t.0 (not t.1) v (takes_possible l t.0 t.2) (not_can is_either_of_test Holds (tree_with_default default r) (not t.1) (subst (λ b. Possible r b) (sym (not-not t.1)) (takes_possible r t.1 t.3))) t.4
  takes_possible (Join (ExactlyOne op) l r) v t =
      joined_possible ExclusiveDisjunction (tree_with_default default l) (tree_with_default default r) t.0 t.1 v (takes_possible l t.0 t.2) (takes_possible r t.1 t.3) t.4
  takes_possible (Parens e) v t = takes_possible e v t
  takes_possible (Set leaf) v t = t

  possible_takes : (e : Tree S) (v : Bool) → Possible e v → Later (Takes Can e v)
  possible_takes (Not op e) v can =
      bind (can_not is_either_of_test Holds (tree_with_default default e) v can) (λ p. possible_takes e (not v) p)
  possible_takes (Union op l r) v can =
      bind (can_compound is_either_of_test Holds Disjunction (tree_with_default default l) (tree_with_default default r) v can) (λ p. bind (possible_takes l p.0 p.2) (λ a. bind (possible_takes r p.1 p.3) (λ b.
      at_once (p.0, p.1, a, b, p.4))))
  possible_takes (Join (Both op) l r) v can =
      bind (can_compound is_either_of_test Holds Conjunction (tree_with_default default l) (tree_with_default default r) v can) (λ p. bind (possible_takes l p.0 p.2) (λ a. bind (possible_takes r p.1 p.3) (λ b.
      at_once (p.0, p.1, a, b, p.4))))
  possible_takes (Join (Without op) l r) v can =
      bind (can_compound is_either_of_test Holds Conjunction (tree_with_default default l) (Negation (tree_with_default default r)) v can) (λ p. bind (can_not is_either_of_test Holds (tree_with_default default r) p.1 p.3) (λ q. bind (possible_takes l p.0 p.2) (λ a. bind (possible_takes r (not p.1) q) (λ b.
      at_once (p.0, not p.1, a, b, ap (λ z. connected Conjunction p.0 z) (not-not p.1) ∙ p.4)))))
  possible_takes (Join (ExactlyOne op) l r) v can =
      bind (can_compound is_either_of_test Holds ExclusiveDisjunction (tree_with_default default l) (tree_with_default default r) v can) (λ p. bind (possible_takes l p.0 p.2) (λ a. bind (possible_takes r p.1 p.3) (λ b.
      at_once (p.0, p.1, a, b, p.4))))
  possible_takes (Parens e) v can = possible_takes e v can
  possible_takes (Set leaf) v can = at_once can

  -- predicates that are alike can take the same values
  plain_alike : (l m : Leaf S) → (MeansOfBinary packages binary l ↔ MeansOfBinary packages binary m) → (v : Bool)
      → (IsTrue v ↔ MeansOfBinary packages binary l) ↔ (IsTrue v ↔ MeansOfBinary packages binary m)
  plain_alike l m k v =
      (λ t. (λ yes. k.0 (t.0 yes), λ h. t.1 (k.1 h)), λ t. (λ yes. k.1 (t.0 yes), λ h. t.1 (k.0 h)))

  can_alike : (l m : Leaf S) → alike_leaves l m ≡ true → (v : Bool) → Can l v ↔ Can m v
  can_alike (Matching Package m s) (Matching Package n t) e v =
      let k = plain_alike (Matching Package m s) (Matching Package n t) (binary_alike packages binary (Matching Package m s) (Matching Package n t) e) v in
      (λ c. (c.0, c.1, k.0 c.2), λ c. (c.0, c.1, k.1 c.2))
  can_alike (Matching Deps m s) (Matching Deps n t) e v =
      let k = plain_alike (Matching Deps m s) (Matching Deps n t) (binary_alike packages binary (Matching Deps m s) (Matching Deps n t) e) v in
      (λ c. (c.0, c.1, k.0 c.2), λ c. (c.0, c.1, k.1 c.2))
  can_alike (Matching Rdeps m s) (Matching Rdeps n t) e v =
      let k = plain_alike (Matching Rdeps m s) (Matching Rdeps n t) (binary_alike packages binary (Matching Rdeps m s) (Matching Rdeps n t) e) v in
      (λ c. (c.0, c.1, k.0 c.2), λ c. (c.0, c.1, k.1 c.2))
  can_alike (Matching Kind m s) (Matching Kind n t) e v =
      let k = plain_alike (Matching Kind m s) (Matching Kind n t) (binary_alike packages binary (Matching Kind m s) (Matching Kind n t) e) v in
      (λ c. (c.0, c.1, k.0 c.2), λ c. (c.0, c.1, k.1 c.2))
  can_alike (Matching Binary m s) (Matching Binary n t) e v =
      let k = plain_alike (Matching Binary m s) (Matching Binary n t) (binary_alike packages binary (Matching Binary m s) (Matching Binary n t) e) v in
      (λ c. (c.0, c.1, k.0 c.2), λ c. (c.0, c.1, k.1 c.2))
  can_alike (Matching BinaryId m s) (Matching BinaryId n t) e v =
      let k = plain_alike (Matching BinaryId m s) (Matching BinaryId n t) (binary_alike packages binary (Matching BinaryId m s) (Matching BinaryId n t) e) v in
      (λ c. (c.0, c.1, k.0 c.2), λ c. (c.0, c.1, k.1 c.2))
  can_alike (Matching Test m s) (Matching Test n t) e v = (λ c. (c.0, c.1, c.2), λ c. (c.0, c.1, c.2))
  can_alike (Matching Group m s) (Matching Group n t) e v = (λ c. (c.0, c.1, c.2), λ c. (c.0, c.1, c.2))
  can_alike (Platform p s) (Platform q t) e v =
      let k = plain_alike (Platform p s) (Platform q t) (binary_alike packages binary (Platform p s) (Platform q t) e) v in
      (λ c. (c.0, c.1, k.0 c.2), λ c. (c.0, c.1, k.1 c.2))
  can_alike (Default s) (Default t) e v = (λ c. c, λ c. c)
  can_alike tree.All tree.All e v = (λ c. c, λ c. c)
  can_alike tree.None tree.None e v = (λ c. c, λ c. c)
  can_alike _ _ e v = absurd (false≢true e)

  -- what is left of a tree takes no value that the tree does not take
  left_possible : (e : Tree S) (v : Bool) → Possible (tree_of_rest (reduced e)) v → Later (Possible e v)
  left_possible e v can =
      bind (possible_takes (tree_of_rest (reduced e)) v can) (λ left. bind (reduced_takes Can (λ leaf. can_some is_either_of_test Holds (tree_leaf_with_default default leaf)) can_alike all_can none_can e v left) (λ t.
      at_once (takes_possible e v t)))

  never_undecided : (e : Tree S) (value : Bool) → IsDefiniteTree e packages binary default value
      → IsUndecidedTree (tree_of_rest (reduced e)) packages binary default → ⊥
  never_undecided e value definite both =
      left_possible e true both.0 (λ yes. left_possible e false both.1 (λ no.
      absurd (false≢true ((definite false).0 no ∙ sym ((definite true).0 yes)))))

  kept_answer : (e : Tree S) (value : Bool) (answer : Option Bool) → IsDefiniteTree e packages binary default value
      → IsBinaryAnswer (tree_of_rest (reduced e)) packages binary default answer → answer ≡ Some value
  kept_answer e value None definite both = absurd (never_undecided e value definite both)
  kept_answer e value (Some other) definite also =
      ap Some (same_unless other value (
      bind (left_possible e other ((also other).1 refl)) (λ p. at_once ((definite other).0 p))))

pub keeps_decided : {S : Type 0} (e : Tree S) → KeepsDecided e (tree_of_rest (reduced e))
keeps_decided e packages binary default value answer definite is = kept_answer packages binary default e value answer definite is
