-- What operators make of the values of their operands.
use Rattle.std.proofs.Common.{◌≡◌, Bool, List, [], ◌∷◌, refl, sym, subst, Option, map}
use Rattle.std.specs.Prelude.{zip}
use Rattle.filterset_expression.specs.Connectives.{kleene, kleene_not}
use Rattle.filterset_expression.specs.Formula.{Compound, Negation, SameShape}
use Rattle.filterset_expression.specs.Expression.{CompiledLeaf, formula}
use Rattle.filterset_expression.specs.Meaning.{IsCompiled, IsCompiledLeaf, tree_formula}
use Rattle.filterset_expression.specs.declared.expression.CompiledExpr.{CompiledExpr}
use Rattle.filterset_expression.specs.declared.logic.Connective.{Connective, TheVariants.Conjunction}
use Rattle.filterset_expression.specs.Formula as formulas
use Rattle.filterset_faults.specs.declared.span.SourceSpan.{SourceSpan}
use Rattle.filterset_grammar.specs.Tree.{Tree, Not, Union, Join, Parens, Set}
use Rattle.filterset_grammar.specs.declared.operators.DifferenceOperator.{DifferenceOperator}
use Rattle.filterset_grammar.specs.declared.operators.Joiner.TheVariants.{Without}
use Rattle.filterset_grammar.specs.declared.operators.NotOperator.{NotOperator, TheVariants.LiteralNot}
use Rattle.filterset_graph.specs.declared.package.PackageMetadata.{PackageMetadata}
use Rattle.filterset_listing.specs.Operands.{left_of, negated_by, right_of}
use Rattle.filterset_listing.proofs.ValueLemmas.{compound_value, negated_alike, negation_value, operands_alike, parens_value}
use Rattle.filterset_listing.specs.Columns.{values_of, first_of, second_of, Fits, IsConnected}
use Rattle.filterset_listing.specs.SubjectValues.{Basis, HasColumn}
use Rattle.filterset_listing.specs.declared.{columns.Columns.Columns, subjects.Subject.Subject}

module _ (basis : Basis) where
  -- ---- values

  negated_column : (op : NotOperator) (e : Tree SourceSpan) (subjects : List Subject) (xs : List (Option Bool))
      → HasColumn basis subjects e xs → HasColumn basis subjects (Not op e) (map kleene_not xs)
  negated_column op e [] [] all = tt
  negated_column op e [] (x ∷ xs) all = absurd all
  negated_column op e (s ∷ subjects) [] all = absurd all
  negated_column op e (s ∷ subjects) (x ∷ xs) all =
      (negation_value s.group.now basis.packages basis.default s.candidate op e x all.0, negated_column op e subjects xs all.1)

  compound_column : (c : Connective) (t a b : Tree SourceSpan) → tree_formula t ≡ Compound c (tree_formula a) (tree_formula b)
      → (subjects : List Subject) (xs ys : List (Option Bool)) → HasColumn basis subjects a xs → HasColumn basis subjects b ys
      → HasColumn basis subjects t (map (λ p. kleene c p.0 p.1) (zip xs ys))
  compound_column c t a b is [] [] ys all also = tt
  compound_column c t a b is [] (x ∷ xs) ys all also = absurd all
  compound_column c t a b is (s ∷ subjects) [] ys all also = absurd all
  compound_column c t a b is (s ∷ subjects) (x ∷ xs) [] all also = absurd also
  compound_column c t a b is (s ∷ subjects) (x ∷ xs) (y ∷ ys) all also =
      (compound_value s.group.now basis.packages basis.default s.candidate c t a b x y is all.0 also.0, compound_column c t a b is subjects xs ys all.1 also.1)

  difference_column : (op : DifferenceOperator) (a b : Tree SourceSpan) (subjects : List Subject) (xs ys : List (Option Bool))
      → HasColumn basis subjects a xs → HasColumn basis subjects b ys
      → HasColumn basis subjects (Join (Without op) a b) (map (λ p. kleene Conjunction p.0 p.1) (zip xs (map kleene_not ys)))
  difference_column op a b subjects xs ys all also =
      compound_column Conjunction (Join (Without op) a b) a (Not LiteralNot b) refl subjects xs (map kleene_not ys) all (negated_column LiteralNot b subjects ys also)

  parens_column : (e : Tree SourceSpan) (subjects : List Subject) (xs : List (Option Bool)) → HasColumn basis subjects e xs → HasColumn basis subjects (Parens e) xs
  parens_column e [] [] all = tt
  parens_column e [] (x ∷ xs) all = absurd all
  parens_column e (s ∷ subjects) [] all = absurd all
  parens_column e (s ∷ subjects) (x ∷ xs) all =
      (parens_value s.group.now basis.packages basis.default s.candidate e x all.0, parens_column e subjects xs all.1)

  -- what fits a tree has its values
  pub own_column : (subjects : List Subject) (e : Tree SourceSpan) (columns : Columns) → Fits basis subjects e columns → HasColumn basis subjects e (values_of columns)
  own_column subjects (Not op e) columns fits = fits.0
  own_column subjects (Union op l r) columns fits = fits.0
  own_column subjects (Join op l r) columns fits = fits.0
  own_column subjects (Parens e) columns fits = parens_column e subjects (values_of columns) (own_column subjects e columns fits)
  own_column subjects (Set leaf) columns fits = fits.0

-- ---- trees and what they are compiled to

-- what is computed of a tree, where it is compiled to the expression
abbrev pub FitsCompiled : CompiledExpr → List Subject → Tree SourceSpan → CompiledExpr → Columns → Type 0
FitsCompiled default subjects e compiled columns =
    (packages : List PackageMetadata) → IsCompiled packages e compiled
    → Fits (record { packages = packages; default = default }) subjects e columns

module _ (default : CompiledExpr) (subjects : List Subject) (c : CompiledExpr) where
  abbrev BasisOf : List PackageMetadata → Basis
  BasisOf packages = record { packages = packages; default = default }

  compiled_at : (packages : List PackageMetadata) (e : Tree SourceSpan) (f : formulas.Formula CompiledLeaf) (l : CompiledExpr) → formula l ≡ f
      → SameShape (IsCompiledLeaf packages) (tree_formula e) f → IsCompiled packages e l
  compiled_at packages e f l is same = subst (SameShape (IsCompiledLeaf packages) (tree_formula e)) (sym is) same

  pub not_fits : (op : NotOperator) (e : Tree SourceSpan) (l : CompiledExpr) (operand columns : Columns) → formula l ≡ negated_by (formula c)
      → FitsCompiled default subjects e l operand → values_of columns ≡ map kleene_not (values_of operand) → first_of columns ≡ operand
      → FitsCompiled default subjects (Not op e) c columns
  not_fits op e l operand columns at inner values first packages is =
      let own = inner packages (compiled_at packages e _ l at (negated_alike (IsCompiledLeaf packages) (tree_formula e) (formula c) is)) in (
        subst (HasColumn (BasisOf packages) subjects (Not op e)) (sym values) (negated_column (BasisOf packages) op e subjects (values_of operand) (own_column (BasisOf packages) subjects e operand own)),
        subst (Fits (BasisOf packages) subjects e) (sym first) own,
      )

  -- an operator whose operands are compiled to those of the expression
  pub two_fits : (k : Connective) (t a b : Tree SourceSpan) (l r : CompiledExpr) (left right columns : Columns) → tree_formula t ≡ Compound k (tree_formula a) (tree_formula b)
      → ((basis : Basis) → HasColumn basis subjects t (values_of columns) × Fits basis subjects a (first_of columns) × Fits basis subjects b (second_of columns) → Fits basis subjects t columns)
      → formula l ≡ left_of (formula c) → formula r ≡ right_of (formula c) → FitsCompiled default subjects a l left → FitsCompiled default subjects b r right
      → IsConnected k left right columns → FitsCompiled default subjects t c columns
  two_fits k t a b l r left right columns of_t fits at_l at_r one other (values, first, second) packages is =
      let parts = operands_alike (IsCompiledLeaf packages) k (tree_formula a) (tree_formula b) (formula c) (subst (λ f. SameShape (IsCompiledLeaf packages) f (formula c)) of_t is) in
      let own = one packages (compiled_at packages a _ l at_l parts.0) in
      let own' = other packages (compiled_at packages b _ r at_r parts.1) in
      fits (BasisOf packages) (
        subst (HasColumn (BasisOf packages) subjects t) (sym values) (compound_column (BasisOf packages) k t a b of_t subjects (values_of left) (values_of right) (own_column (BasisOf packages) subjects a left own) (own_column (BasisOf packages) subjects b right own')),
        subst (Fits (BasisOf packages) subjects a) (sym first) own,
        subst (Fits (BasisOf packages) subjects b) (sym second) own',
      )

  -- the right operand of a difference is compiled to a negation
  pub without_fits : (op : DifferenceOperator) (a b : Tree SourceSpan) (l m r : CompiledExpr) (left right columns : Columns) → formula l ≡ left_of (formula c) → formula m ≡ right_of (formula c) → formula r ≡ negated_by (formula m)
      → FitsCompiled default subjects a l left → FitsCompiled default subjects b r right
      → values_of columns ≡ map (λ p. kleene Conjunction p.0 p.1) (zip (values_of left) (map kleene_not (values_of right))) → first_of columns ≡ left → second_of columns ≡ right
      → FitsCompiled default subjects (Join (Without op) a b) c columns
  without_fits op a b l m r left right columns at_l at_m at_r one other values first second packages is =
      let parts = operands_alike (IsCompiledLeaf packages) Conjunction (tree_formula a) (Negation (tree_formula b)) (formula c) is in
      let own = one packages (compiled_at packages a _ l at_l parts.0) in
      let under = subst (SameShape (IsCompiledLeaf packages) (Negation (tree_formula b))) (sym at_m) parts.1 in
      let own' = other packages (compiled_at packages b _ r at_r (negated_alike (IsCompiledLeaf packages) (tree_formula b) (formula m) under)) in (
        subst (HasColumn (BasisOf packages) subjects (Join (Without op) a b)) (sym values) (difference_column (BasisOf packages) op a b subjects (values_of left) (values_of right) (own_column (BasisOf packages) subjects a left own) (own_column (BasisOf packages) subjects b right own')),
        subst (Fits (BasisOf packages) subjects a) (sym first) own,
        subst (Fits (BasisOf packages) subjects b) (sym second) own',
      )
