-- What a compiled expression tells of a binary is what its tree tells.
use Rattle.std.proofs.Common.{◌≡◌, ◌↔◌, Bool, true, false, List, refl, sym, ◌∙◌, ap, take, drop}
use Rattle.std.specs.Prelude.{cond, MatchBool}
use Rattle.filterset_faults.specs.declared.span.SourceSpan.{SourceSpan}
use Rattle.filterset_graph.specs.declared.package.PackageMetadata.{PackageMetadata}
use Rattle.filterset_grammar.specs.Tree as tree
use Rattle.filterset_grammar.specs.Tree.{Tree, Matching, Platform, Default}
use Rattle.filterset_grammar.specs.declared.predicate.Predicate.TheVariants.{Package, Deps, Rdeps, Kind, Binary, BinaryId, Test, Group}
use Rattle.filterset_matchers.specs.Matcher.{MatchesName}
use Rattle.filterset_expression.specs.BinaryMeaning.{EitherLeaf, OfTree, OfDefault, tree_leaf_with_default, tree_with_default, is_of_test_predicate, is_either_of_test, EitherOfBinary, PossibleOfTree, IsDefiniteTree, IsUndecidedTree, TellsTheSame}
use Rattle.filterset_expression.specs.Expression.{CompiledLeaf, formula, is_of_test, leaf_with_default, with_default, HoldsOfBinary, Possible, IsDefinite, IsUndecided}
use Rattle.filterset_expression.specs.Formula.{Formula, Leaf, Negation, Compound, replaced, SameShape}
use Rattle.filterset_expression.specs.Meaning.{tree_formula, MeansOfBinary, IsCompiledLeaf, IsCompiled}
use Rattle.filterset_expression.specs.Values.{occurrences, TrueUnder, CanBe}
use Rattle.filterset_expression.specs.declared.{expression.CompiledExpr.CompiledExpr, query.BinaryQuery.BinaryQuery}
use Rattle.filterset_expression.proofs.{Connectives.connects_alike, Meanings.alike, Meanings.alike_at}
use Rattle.filterset_expression.specs.Expression as compiled

match_alike : (b : Bool) (X P Q : Type 0) → P ↔ Q → MatchBool b X P ↔ MatchBool b X Q
match_alike true X P Q e = alike X
match_alike false X P Q e = e

module _ {A B : Type 0} (R : A → B → Type 0) (is_asked : A → Bool) (is_asked' : B → Bool) (asked_alike : (a : A) (b : B) → R a b → is_asked a ≡ is_asked' b) where
  -- formulas of one shape have as many leaves that are asked
  pub same_occurrences : (f : Formula A) (g : Formula B) → SameShape R f g → occurrences is_asked f ≡ occurrences is_asked' g
  same_occurrences (Leaf a) (Leaf b) s = ap (λ c. cond c 1 0) (asked_alike a b s)
  same_occurrences (Negation f) (Negation g) s = same_occurrences f g s
  same_occurrences (Compound c f f') (Compound d g g') s =
      let e = same_occurrences f g s.1 in let k = same_occurrences f' g' s.2 in cc
  same_occurrences _ _ s = absurd s

module _ {A B : Type 0} (R : A → B → Type 0) (is_asked : A → Bool) (is_asked' : B → Bool) (P : A → Type 0) (Q : B → Type 0) (asked_alike : (a : A) (b : B) → R a b → is_asked a ≡ is_asked' b) (leaves_agree : (a : A) (b : B) → R a b → P a ↔ Q b) where
  counts : (f : Formula A) (g : Formula B) → SameShape R f g → occurrences is_asked f ≡ occurrences is_asked' g
  counts f g s = same_occurrences R is_asked is_asked' asked_alike f g s

  -- and are true under the same answers
  pub same_under : (f : Formula A) (g : Formula B) → SameShape R f g → (answers : List Bool) → TrueUnder is_asked P f answers ↔ TrueUnder is_asked' Q g answers
  same_under (Leaf a) (Leaf b) s answers = rw (asked_alike a b s) (match_alike (is_asked' b) _ (P a) (Q b) (leaves_agree a b s))
  same_under (Negation f) (Negation g) s answers =
      let e = same_under f g s answers in (λ n q. n (e.1 q), λ n p. n (e.0 p))
  same_under (Compound c f f') (Compound d g g') s answers =
      rw (s.0, counts f g s.1) (connects_alike d _ _ _ _ (same_under f g s.1 (take (occurrences is_asked' g) answers)) (same_under f' g' s.2 (drop (occurrences is_asked' g) answers)))
  same_under _ _ s answers = absurd s

  -- so they take the same values
  pub same_values : (f : Formula A) (g : Formula B) → SameShape R f g → (value : Bool) → CanBe is_asked P f value ↔ CanBe is_asked' Q g value
  same_values f g s value =
      let counted = counts f g s in
      let under = same_under f g s in
      (λ can. (can.0, can.1 ∙ counted, (λ yes. (under can.0).0 (can.2.0 yes), λ true_there. can.2.1 ((under can.0).1 true_there))), λ can. (can.0, can.1 ∙ sym counted, (λ yes. (under can.0).1 (can.2.0 yes), λ true_here. can.2.1 ((under can.0).0 true_here))))

-- formulas of one shape, with formulas of one shape in the place of their leaves
same_replaced : {A B C D : Type 0} (R : A → B → Type 0) (S : C → D → Type 0) (at : A → Formula C) (at' : B → Formula D) → ((a : A) (b : B) → R a b → SameShape S (at a) (at' b)) → (f : Formula A) (g : Formula B) → SameShape R f g → SameShape S (replaced at f) (replaced at' g)
same_replaced R S at at' each (Leaf a) (Leaf b) s = each a b s
same_replaced R S at at' each (Negation f) (Negation g) s = same_replaced R S at at' each f g s
same_replaced R S at at' each (Compound c f f') (Compound d g g') s =
    (s.0, same_replaced R S at at' each f g s.1, same_replaced R S at at' each f' g' s.2)
same_replaced R S at at' each _ _ s = absurd s

module _ (packages : List PackageMetadata) where
  -- a leaf of a tree and what it is compiled to, or the same leaf of the default filter
  abbrev Same : EitherLeaf SourceSpan → CompiledLeaf → Type 0
  Same (OfTree l) c = IsCompiledLeaf packages l c
  Same (OfDefault d) c = d ≡ c

  same_default : (f : Formula CompiledLeaf) → SameShape Same (replaced (λ l. Leaf (OfDefault l)) f) f
  same_default (Leaf l) = refl
  same_default (Negation f) = same_default f
  same_default (Compound c f g) = (refl, same_default f, same_default g)

  same_leaf : (default : CompiledExpr) (l : tree.Leaf SourceSpan) (c : CompiledLeaf) → IsCompiledLeaf packages l c → SameShape Same (tree_leaf_with_default default l) (leaf_with_default default c)
  same_leaf default (Matching Package m s) (compiled.Packages ids) are = are
  same_leaf default (Matching Deps m s) (compiled.Packages ids) are = are
  same_leaf default (Matching Rdeps m s) (compiled.Packages ids) are = are
  same_leaf default (Matching Kind m s) (compiled.Kind n t) are = are
  same_leaf default (Matching Binary m s) (compiled.Binary n t) are = are
  same_leaf default (Matching BinaryId m s) (compiled.BinaryId n t) are = are
  same_leaf default (Matching Test m s) (compiled.Test n t) are = are
  same_leaf default (Matching Group m s) (compiled.Group n t) are = are
  same_leaf default (Platform p s) (compiled.Platform q t) are = are
  same_leaf default (Default s) compiled.Default are = same_default (formula default)
  same_leaf default tree.All compiled.All are = are
  same_leaf default tree.None compiled.None are = are
  same_leaf default _ _ are = absurd are

  asked_alike_own : (l : tree.Leaf SourceSpan) (c : CompiledLeaf) → IsCompiledLeaf packages l c → is_of_test_predicate l ≡ is_of_test c
  asked_alike_own (Matching Package m s) (compiled.Packages ids) are = refl
  asked_alike_own (Matching Deps m s) (compiled.Packages ids) are = refl
  asked_alike_own (Matching Rdeps m s) (compiled.Packages ids) are = refl
  asked_alike_own (Matching Kind m s) (compiled.Kind n t) are = refl
  asked_alike_own (Matching Binary m s) (compiled.Binary n t) are = refl
  asked_alike_own (Matching BinaryId m s) (compiled.BinaryId n t) are = refl
  asked_alike_own (Matching Test m s) (compiled.Test n t) are = refl
  asked_alike_own (Matching Group m s) (compiled.Group n t) are = refl
  asked_alike_own (Platform p s) (compiled.Platform q t) are = refl
  asked_alike_own (Default s) compiled.Default are = refl
  asked_alike_own tree.All compiled.All are = refl
  asked_alike_own tree.None compiled.None are = refl
  asked_alike_own _ _ are = absurd are

  asked_alike : (l : EitherLeaf SourceSpan) (c : CompiledLeaf) → Same l c → is_either_of_test l ≡ is_of_test c
  asked_alike (OfTree l) c are = asked_alike_own l c are
  asked_alike (OfDefault d) c are = ap is_of_test are

  -- a tree and what it is compiled to, with the default filter in its place, have one shape
  same_with_default : (default : CompiledExpr) (e : Tree SourceSpan) (c : CompiledExpr) → IsCompiled packages e c → SameShape Same (tree_with_default default e) (with_default default c)
  same_with_default default e c is =
      same_replaced (IsCompiledLeaf packages) Same (tree_leaf_with_default default) (leaf_with_default default) (same_leaf default) (tree_formula e) (formula c) is

  counted_alike : (default : CompiledExpr) (e : Tree SourceSpan) (c : CompiledExpr) → IsCompiled packages e c → occurrences is_of_test (with_default default c) ≡ occurrences is_either_of_test (tree_with_default default e)
  counted_alike default e c is =
      sym (same_occurrences Same is_either_of_test is_of_test asked_alike (tree_with_default default e) (with_default default c) (same_with_default default e c is))

module _ (packages : List PackageMetadata) (binary : BinaryQuery) where
  means_alike_own : (l : tree.Leaf SourceSpan) (c : CompiledLeaf) → IsCompiledLeaf packages l c → MeansOfBinary packages binary l ↔ HoldsOfBinary binary c
  means_alike_own (Matching Package m s) (compiled.Packages ids) are = let e = are binary.package_id.now in (e.1, e.0)
  means_alike_own (Matching Deps m s) (compiled.Packages ids) are = let e = are binary.package_id.now in (e.1, e.0)
  means_alike_own (Matching Rdeps m s) (compiled.Packages ids) are = let e = are binary.package_id.now in (e.1, e.0)
  means_alike_own (Matching Kind m s) (compiled.Kind n t) are = alike_at (λ k. MatchesName k binary.kind.now) m n are.0
  means_alike_own (Matching Binary m s) (compiled.Binary n t) are = alike_at (λ k. MatchesName k binary.binary_name.now) m n are.0
  means_alike_own (Matching BinaryId m s) (compiled.BinaryId n t) are = alike_at (λ k. MatchesName k binary.binary_id.now) m n are.0
  means_alike_own (Matching Test m s) (compiled.Test n t) are = alike ⊥
  means_alike_own (Matching Group m s) (compiled.Group n t) are = alike ⊥
  means_alike_own (Platform p s) (compiled.Platform q t) are = alike_at (λ k. binary.platform ≡ k) p q are.0
  means_alike_own (Default s) compiled.Default are = alike ⊥
  means_alike_own tree.All compiled.All are = alike (Unit {0})
  means_alike_own tree.None compiled.None are = alike ⊥
  means_alike_own _ _ are = absurd are

  means_alike : (l : EitherLeaf SourceSpan) (c : CompiledLeaf) → Same packages l c → EitherOfBinary packages binary l ↔ HoldsOfBinary binary c
  means_alike (OfTree l) c are = means_alike_own l c are
  means_alike (OfDefault d) c are = alike_at (HoldsOfBinary binary) d c are

  under_alike : (default : CompiledExpr) (e : Tree SourceSpan) (c : CompiledExpr) → IsCompiled packages e c → (answers : List Bool) → TrueUnder is_of_test (HoldsOfBinary binary) (with_default default c) answers ↔ TrueUnder is_either_of_test (EitherOfBinary packages binary) (tree_with_default default e) answers
  under_alike default e c is answers =
      let k = same_under (Same packages) is_either_of_test is_of_test (EitherOfBinary packages binary) (HoldsOfBinary binary) (asked_alike packages) means_alike (tree_with_default default e) (with_default default c) (same_with_default packages default e c is) answers in
      (k.1, k.0)

  -- a tree and what it is compiled to take the same values
  compiled_possible : (default : CompiledExpr) (e : Tree SourceSpan) (c : CompiledExpr) → IsCompiled packages e c → (value : Bool) → PossibleOfTree e packages binary default value ↔ Possible c binary default value
  compiled_possible default e c is value =
      same_values (Same packages) is_either_of_test is_of_test (EitherOfBinary packages binary) (HoldsOfBinary binary) (asked_alike packages) means_alike (tree_with_default default e) (with_default default c) (same_with_default packages default e c is) value

  -- so one is definite where the other is
  pub compiled_definite : (default : CompiledExpr) (e : Tree SourceSpan) (c : CompiledExpr) → IsCompiled packages e c → (value : Bool) → IsDefinite c binary default value ↔ IsDefiniteTree e packages binary default value
  compiled_definite default e c is value =
      let possible = compiled_possible default e c is in
      (λ definite other. (λ can. (definite other).0 ((possible other).0 can), λ same. (possible other).1 ((definite other).1 same)), λ definite other. (λ can. (definite other).0 ((possible other).1 can), λ same. (possible other).0 ((definite other).1 same)))

  -- and one is undecided where the other is
  pub compiled_undecided : (default : CompiledExpr) (e : Tree SourceSpan) (c : CompiledExpr) → IsCompiled packages e c → IsUndecided c binary default ↔ IsUndecidedTree e packages binary default
  compiled_undecided default e c is =
      let possible = compiled_possible default e c is in
      (λ both. ((possible true).1 both.0, (possible false).1 both.1), λ both. ((possible true).0 both.0, (possible false).0 both.1))

-- a tree and what it is compiled to tell the same of every binary
pub tells_the_same : (packages : List PackageMetadata) (e : Tree SourceSpan) (c : CompiledExpr) → IsCompiled packages e c → TellsTheSame packages e c
tells_the_same packages e c is = record {
  counted = λ default. counted_alike packages default e c is;
  alike = λ binary default. under_alike packages binary default e c is;
}
