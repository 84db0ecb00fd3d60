-- What leaves say of a test, and what the test's binary and its group tell of it.
use Rattle.std.proofs.Common.{◌↔◌, ◌≡◌, ◌∙◌, sym, Bool, true, false, refl, Some}
use Rattle.std.specs.{Bool.IsTrue, List.list_any}
use Rattle.std.proofs.lemmas.{Bool.or_parts, List.Folds.list_any-append}
use Rattle.filterset_faults.specs.declared.span.SourceSpan.{SourceSpan}
use Rattle.filterset_matchers.specs.declared.matcher.NameMatcher.{NameMatcher}
use Rattle.filterset_expression.specs.Expression as compiled
use Rattle.filterset_expression.specs.Expression.{CompiledLeaf, compiled_leaf, is_group, is_of_test, Lookup, no_groups, with_default, HoldsOfBinary, HoldsOfTest, Holds, IsDefinite}
use Rattle.filterset_expression.specs.Connectives.{Decides, kleene, kleene_not}
use Rattle.filterset_expression.specs.Folds.{Folds, Settles}
use Rattle.filterset_expression.specs.Formula.{Formula, Leaf, Negation, Compound, leaves, TrueWhere}
use Rattle.filterset_expression.specs.declared.expression.CompiledExpr.{CompiledExpr}
use Rattle.filterset_expression.specs.declared.{leaves.FiltersetLeaf.FiltersetLeaf, query.TestQuery.TestQuery}
use Rattle.filterset_expression.proofs.{Connectives.connects_alike, Exact.definite_answer, Exact.fold_knows}
use Rattle.filterset_expression.proofs.Meanings.{alike}
use Rattle.filterset_expression.specs.declared.leaves.FiltersetLeaf.TheVariants as leaf

-- what the arm for the other leaves knows
pub no_group : (l : FiltersetLeaf) → ((matcher : NameMatcher) (span : SourceSpan) → l ≡ leaf.Group matcher span → ⊥) → is_group (compiled_leaf l) ≡ false
no_group (leaf.Group matcher span) other = absurd (other matcher span refl)
no_group (leaf.Packages ids) other = refl
no_group (leaf.Kind m s) other = refl
no_group (leaf.Platform p s) other = refl
no_group (leaf.Binary m s) other = refl
no_group (leaf.BinaryId m s) other = refl
no_group (leaf.Test m s) other = refl
no_group leaf.Default other = refl
no_group leaf.All other = refl
no_group leaf.None other = refl

-- a lookup says nothing of a leaf that is no `group`
pub decides_with_groups : (value : Bool) (test : TestQuery) (lookup : Lookup) (l : CompiledLeaf) → is_group l ≡ false → (IsTrue value ↔ (HoldsOfTest test no_groups l)) → (IsTrue value ↔ (HoldsOfTest test lookup l))
decides_with_groups value test lookup (compiled.Group matcher span) e h = absurd (let clash : true ≡ false = e in cc)
decides_with_groups value test lookup _ e h = h

-- the binary tells what the other leaves say
binary_tells : (test : TestQuery) (lookup : Lookup) (l : CompiledLeaf) → is_of_test l ≡ false → HoldsOfBinary test.binary_query l ↔ HoldsOfTest test lookup l
binary_tells test lookup (compiled.Test matcher span) e = absurd (let clash : true ≡ false = e in cc)
binary_tells test lookup (compiled.Group matcher span) e = absurd (let clash : true ≡ false = e in cc)
binary_tells test lookup l e = alike (HoldsOfBinary test.binary_query l)

-- what is definite of a test's binary is the answer for the test
pub definite_of_test : (e default : CompiledExpr) (test : TestQuery) (lookup : Lookup) (answer value : Bool) → (IsTrue answer ↔ Holds e test default lookup) → IsDefinite e test.binary_query default value → answer ≡ value
definite_of_test e default test lookup answer value is definite =
    definite_answer is_of_test (HoldsOfBinary test.binary_query) (HoldsOfTest test lookup) (binary_tells test lookup) (with_default default e) value answer definite is

-- what is told of a test's binary, where it is known, says whether the expression holds of the test
pub told_of_test : (f : Formula CompiledLeaf) (test : TestQuery) (lookup : Lookup) (value : Bool) → Folds kleene_not kleene (Decides (Some true) (Some false)) (Settles is_of_test (HoldsOfBinary test.binary_query)) f (Some value) → IsTrue value ↔ TrueWhere (HoldsOfTest test lookup) f
told_of_test f test lookup value =
    fold_knows is_of_test (HoldsOfBinary test.binary_query) (HoldsOfTest test lookup) (binary_tells test lookup) f (Some value)

-- a formula is true alike where its leaves that pass no test hold alike
module _ {A : Type 0} (p : A → Bool) (P Q : A → Type 0) (agree : (leaf : A) → p leaf ≡ false → P leaf ↔ Q leaf) where
  truth_alike : (f : Formula A) → list_any p (leaves f) ≡ false → TrueWhere P f ↔ TrueWhere Q f
  truth_alike (Leaf leaf) none = agree leaf (or_parts (p leaf) false none).0
  truth_alike (Negation f) none = let e = truth_alike f none in (λ n q. n (e.1 q), λ n t. n (e.0 t))
  truth_alike (Compound c f g) none =
      let both = or_parts _ _ (sym (list_any-append p (leaves f) (leaves g)) ∙ none) in
      connects_alike c _ _ _ _ (truth_alike f both.0) (truth_alike g both.1)

no_lookup : (test : TestQuery) (lookup other : Lookup) (l : CompiledLeaf) → is_group l ≡ false → HoldsOfTest test lookup l ↔ HoldsOfTest test other l
no_lookup test lookup other (compiled.Group matcher span) e = absurd (let clash : true ≡ false = e in cc)
no_lookup test lookup other l e = alike (HoldsOfTest test lookup l)

-- where no leaf is a `group`, what holds does not depend on the lookup
pub lookups_alike : (f : Formula CompiledLeaf) (test : TestQuery) (lookup other : Lookup) → list_any is_group (leaves f) ≡ false → TrueWhere (HoldsOfTest test lookup) f ↔ TrueWhere (HoldsOfTest test other) f
lookups_alike f test lookup other none =
    truth_alike is_group (HoldsOfTest test lookup) (HoldsOfTest test other) (no_lookup test lookup other) f none
