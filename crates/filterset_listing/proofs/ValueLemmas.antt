-- What an operator makes of the values of its operands, and what predicates stand for.
use Rattle.std.proofs.Common.{◌≡◌, ◌↔◌, Bool, true, false, List, refl, sym, subst, Option, Some, None, IsTrue}
use Rattle.filterset_faults.specs.declared.span.SourceSpan.{SourceSpan}
use Rattle.filterset_graph.specs.{Packages.Text, declared.package.PackageMetadata.PackageMetadata}
use Rattle.filterset_grammar.specs.Tree.{Tree, Leaf, Not, Parens}
use Rattle.filterset_grammar.specs.declared.operators.NotOperator.{NotOperator}
use Rattle.filterset_expression.specs.BinaryMeaning.{EitherOfBinary, is_either_of_test, tree_leaf_with_default, tree_with_default}
use Rattle.filterset_expression.specs.Connectives.{connected, kleene, kleene_not}
use Rattle.filterset_expression.specs.declared.logic.Connective.{Connective}
use Rattle.filterset_expression.specs.declared.logic.Connective.TheVariants.{Conjunction, Disjunction, ExclusiveDisjunction}
use Rattle.filterset_expression.specs.Formula.{Formula, Negation, Compound, SameShape, TrueWhere, replaced}
use Rattle.filterset_expression.specs.Meaning.{MeansOfTest, tree_formula}
use Rattle.filterset_expression.specs.declared.{expression.CompiledExpr.CompiledExpr, query.BinaryQuery.BinaryQuery}
use Rattle.filterset_expression.proofs.{Connectives.connected_decides, Folding.decides_not}
use Rattle.filterset_expression.proofs.Operands.{Takes, compound_takes, negation_takes}
use Rattle.filterset_listing.specs.{Asking.in_group, Operands.left_of, Operands.negated_by, Operands.right_of}
use Rattle.filterset_listing.specs.{Values.HasValueIn, declared.explaining.candidate.Candidate.Candidate}
use Rattle.filterset_listing.specs.declared.explaining.candidate.Candidate.TheVariants.{Binary, Test}

-- of two known values a connective makes a known one
kleene_some : (c : Connective) (p q : Bool) → kleene c (Some p) (Some q) ≡ Some (connected c p q)
kleene_some Conjunction true q = refl
kleene_some Conjunction false q = refl
kleene_some Disjunction true q = refl
kleene_some Disjunction false q = refl
kleene_some ExclusiveDisjunction p q = refl

module _ (group : Text) (packages : List PackageMetadata) (default : CompiledExpr) where
  abbrev Told : BinaryQuery → Formula (Leaf SourceSpan) → Option Bool → Type 0
  Told query f x = Takes is_either_of_test (EitherOfBinary packages query) (replaced (tree_leaf_with_default default) f) x

  to_told : (query : BinaryQuery) (e : Tree SourceSpan) (x : Option Bool) → HasValueIn group (Binary query) packages default e x → Told query (tree_formula e) x
  to_told query e (Some b) v = v
  to_told query e None v = v

  from_told : (query : BinaryQuery) (e : Tree SourceSpan) (x : Option Bool) → Told query (tree_formula e) x → HasValueIn group (Binary query) packages default e x
  from_told query e (Some b) v = v
  from_told query e None v = v

  pub negation_value : (s : Candidate) (op : NotOperator) (e : Tree SourceSpan) (x : Option Bool) → HasValueIn group s packages default e x → HasValueIn group s packages default (Not op e) (kleene_not x)
  negation_value (Binary query) op e x v =
      from_told query (Not op e) (kleene_not x) (negation_takes is_either_of_test (EitherOfBinary packages query) (tree_with_default default e) x (to_told query e x v))
  negation_value (Test query) op e (Some b) v = decides_not b _ v
  negation_value (Test query) op e None v = absurd v

  pub compound_value : (s : Candidate) (c : Connective) (t a b : Tree SourceSpan) (x y : Option Bool) → tree_formula t ≡ Compound c (tree_formula a) (tree_formula b)
      → HasValueIn group s packages default a x → HasValueIn group s packages default b y → HasValueIn group s packages default t (kleene c x y)
  compound_value (Binary query) c t a b x y is v w =
      from_told query t (kleene c x y) (subst (λ f. Told query f (kleene c x y)) (sym is) (compound_takes is_either_of_test (EitherOfBinary packages query) c (tree_with_default default a) (tree_with_default default b) x y (to_told query a x v) (to_told query b y w)))
  compound_value (Test query) c t a b (Some p) (Some q) is v w =
      subst (λ z. HasValueIn group (Test query) packages default t z) (sym (kleene_some c p q))
      (subst (λ f. (IsTrue (connected c p q) ↔ (TrueWhere (MeansOfTest packages query default (in_group group)) f))) (sym is) (connected_decides c p q _ _ v w))
  compound_value (Test query) c t a b None y is v w = absurd v
  compound_value (Test query) c t a b (Some p) None is v w = absurd w

-- parentheses have the value of what they hold
pub parens_value : (group : Text) (packages : List PackageMetadata) (default : CompiledExpr) (s : Candidate) (e : Tree SourceSpan) (x : Option Bool) → HasValueIn group s packages default e x → HasValueIn group s packages default (Parens e) x
parens_value group packages default (Binary query) e (Some b) v = v
parens_value group packages default (Binary query) e None v = v
parens_value group packages default (Test query) e (Some b) v = v
parens_value group packages default (Test query) e None v = v

-- the operands of formulas of one shape are of one shape
pub operands_alike : {A B : Type 0} (R : A → B → Type 0) (c : Connective) (f g : Formula A) (h : Formula B) → SameShape R (Compound c f g) h → SameShape R f (left_of h) × SameShape R g (right_of h)
operands_alike R c f g (Compound d k l) is = (is.1, is.2)
operands_alike R c f g _ is = absurd is

pub negated_alike : {A B : Type 0} (R : A → B → Type 0) (f : Formula A) (h : Formula B) → SameShape R (Negation f) h → SameShape R f (negated_by h)
negated_alike R f (Negation k) is = is
negated_alike R f _ is = absurd is
