-- The nodes of a tree, each before its operands.
use Rattle.std.proofs.Common.{◌≡◌, ◌⊎◌, ℕ, ◌+◌, Bool, false, List, [], ◌∷◌, ◌++◌, refl, sym, ap, subst, ◌∙◌, append_assoc, inl, inr, Option, None}
use Rattle.std.specs.List.{AllZip}
use Rattle.filterset_faults.specs.declared.span.SourceSpan.{SourceSpan}
use Rattle.filterset_graph.specs.declared.package.PackageMetadata.{PackageMetadata}
use Rattle.filterset_grammar.specs.Tree.{Tree, Leaf, Not, Union, Join, Set}
use Rattle.filterset_grammar.specs.declared.operators.{Joiner.Joiner, NotOperator.NotOperator, OrOperator.OrOperator}
use Rattle.filterset_language.specs.Views.{tree_of}
use Rattle.filterset_listing.specs.Columns.{Fits, Keeps, first_of, second_of, values_of}
use Rattle.filterset_listing.specs.Explaining.{AddsNode, Explains, HasShared, IsExplained, shared_value}
use Rattle.filterset_listing.specs.{Nodes.tree_nodes, NamedPackages.NamesPackages, NamedPackages.stands_for_packages}
use Rattle.filterset_listing.specs.SubjectValues.{Basis, HasColumn}
use Rattle.filterset_listing.specs.declared.{columns.Columns.Columns, explaining.ExplainedNode.ExplainedNode}
use Rattle.filterset_listing.specs.declared.{explaining.packages.NamedPackages.NamedPackages, subjects.Subject.Subject}
use Rattle.filterset_listing.proofs.PicksLemmas.{AllZip-weaker}

AllZip-append : {A B : Type 0} (R : A → B → Type 0) (xs zs : List A) (ys ws : List B) → AllZip R xs ys → AllZip R zs ws → AllZip R (xs ++ zs) (ys ++ ws)
AllZip-append R [] zs [] ws all more = more
AllZip-append R [] zs (y ∷ ys) ws all more = absurd all
AllZip-append R (x ∷ xs) zs [] ws all more = absurd all
AllZip-append R (x ∷ xs) zs (y ∷ ys) ws all more = (all.0, AllZip-append R xs zs ys ws all.1 more)

-- an operator of two operands
abbrev pub IsOfTwo : Tree SourceSpan → Tree SourceSpan → Tree SourceSpan → Type 0
IsOfTwo t a b = ((op : OrOperator) × (t ≡ Union op a b)) ⊎ ((joiner : Joiner) × (t ≡ Join joiner a b))

module _ (packages : List PackageMetadata) (depth : ℕ) (columns : Columns) (before mid : List ExplainedNode) where
  -- a node that names these packages
  node_explained : (basis : Basis) (subjects : List Subject) (t : Tree SourceSpan) (named : Option NamedPackages) (one : ExplainedNode) → HasColumn basis subjects t (values_of columns) → NamesPackages basis.packages t named
      → one.depth ≡ depth → tree_of one.node.now ≡ t → one.value ≡ shared_value (values_of columns) → one.packages ≡ named → IsExplained (HasShared basis subjects) basis.packages (depth, t) one
  node_explained basis subjects t named one has names deep of_tree value packages_are =
      (deep, of_tree, (values_of columns, has, value), subst (NamesPackages basis.packages t) (sym packages_are) names)

  -- a node, and the nodes of its operands
  operator_explained : (basis : Basis) (subjects : List Subject) (t : Tree SourceSpan) (below : List (ℕ × Tree SourceSpan)) (late : List ExplainedNode) → HasColumn basis subjects t (values_of columns) → stands_for_packages t ≡ false
      → AddsNode depth t (shared_value (values_of columns)) None before mid
      → ((added : List ExplainedNode) × (late ≡ mid ++ added) × AllZip (IsExplained (HasShared basis subjects) basis.packages) below added)
      → (added : List ExplainedNode) × (late ≡ before ++ added) × AllZip (IsExplained (HasShared basis subjects) basis.packages) ((depth, t) ∷ below) added
  operator_explained basis subjects t below late has none (one, e, deep, of_tree, value, named) (added, is, are) =
      (one ∷ added, is ∙ ap (λ l. l ++ added) e ∙ append_assoc before (one ∷ []) added, (node_explained basis subjects t None one has none deep of_tree value named, are))

  pub not_explained : (op : NotOperator) (e : Tree SourceSpan) (after : List ExplainedNode) → AddsNode depth (Not op e) (shared_value (values_of columns)) None before mid
      → Explains packages (depth + 1) e (first_of columns) mid after → Explains packages depth (Not op e) columns before after
  not_explained op e after adds operand default subjects fits =
      operator_explained (record { packages = packages; default = default }) subjects (Not op e) (tree_nodes (depth + 1) e) after fits.0 refl adds (operand default subjects fits.1)

  two_explained : (t a b : Tree SourceSpan) (late after : List ExplainedNode) → tree_nodes depth t ≡ (depth, t) ∷ (tree_nodes (depth + 1) a ++ tree_nodes (depth + 1) b) → stands_for_packages t ≡ false
      → ((basis : Basis) (subjects : List Subject) → Fits basis subjects t columns → HasColumn basis subjects t (values_of columns) × Fits basis subjects a (first_of columns) × Fits basis subjects b (second_of columns))
      → AddsNode depth t (shared_value (values_of columns)) None before mid
      → Explains packages (depth + 1) a (first_of columns) mid late → Explains packages (depth + 1) b (second_of columns) late after → Explains packages depth t columns before after
  two_explained t a b late after nodes none parts adds left right default subjects fits =
      let basis : Basis = record { packages = packages; default = default } in
      let own = parts basis subjects fits in
      let first = left default subjects own.1 in
      let second = right default subjects own.2 in
      subst (λ ns. (added : List ExplainedNode) × (after ≡ before ++ added) × AllZip (IsExplained (HasShared basis subjects) packages) ns added) (sym nodes)
      (operator_explained basis subjects t (tree_nodes (depth + 1) a ++ tree_nodes (depth + 1) b) after own.0 none adds
      (first.0 ++ second.0, second.1 ∙ ap (λ l. l ++ second.0) first.1 ∙ append_assoc mid first.0 second.0, AllZip-append (IsExplained (HasShared basis subjects) packages) (tree_nodes (depth + 1) a) (tree_nodes (depth + 1) b) first.0 second.0 first.2 second.2))

  pub operands_explained : (t a b : Tree SourceSpan) (late after : List ExplainedNode) → IsOfTwo t a b → AddsNode depth t (shared_value (values_of columns)) None before mid
      → Explains packages (depth + 1) a (first_of columns) mid late → Explains packages (depth + 1) b (second_of columns) late after → Explains packages depth t columns before after
  operands_explained t a b late after (inl (op, is)) adds left right = subst (λ t. Explains packages depth t columns before after) (sym is)
      (two_explained (Union op a b) a b late after refl refl (λ basis subjects fits. fits) (subst (λ t. AddsNode depth t (shared_value (values_of columns)) None before mid) is adds) left right)
  operands_explained t a b late after (inr (joiner, is)) adds left right = subst (λ t. Explains packages depth t columns before after) (sym is)
      (two_explained (Join joiner a b) a b late after refl refl (λ basis subjects fits. fits) (subst (λ t. AddsNode depth t (shared_value (values_of columns)) None before mid) is adds) left right)

  pub leaf_explained : (leaf : Leaf SourceSpan) (named : Option NamedPackages) → (Keeps packages (Set leaf) columns → NamesPackages packages (Set leaf) named)
      → AddsNode depth (Set leaf) (shared_value (values_of columns)) named before mid → Explains packages depth (Set leaf) columns before mid
  leaf_explained leaf named names (one, e, deep, of_tree, value, packages_are) default subjects fits =
      (one ∷ [], e, (node_explained (record { packages = packages; default = default }) subjects (Set leaf) named one fits.0 (names fits.1) deep of_tree value packages_are, tt))

module _ (packages : List PackageMetadata) (One Other : Tree SourceSpan → Option Bool → Type 0) (gives : (e : Tree SourceSpan) (x : Option Bool) → One e x → Other e x) where
  pub explained_weaker : (tops : List (ℕ × Tree SourceSpan)) (nodes : List ExplainedNode) → AllZip (IsExplained One packages) tops nodes → AllZip (IsExplained Other packages) tops nodes
  explained_weaker = AllZip-weaker (IsExplained One packages) (IsExplained Other packages) (λ top node is. (is.0, is.1, gives top.1 node.value is.2, is.3))
