-- Expressions without a `default` leaf.
use Rattle.std.proofs.Common.{◌≡◌, ◌∙◌, sym, ap, refl, true, false}
use Rattle.std.specs.List.{list_any}
use Rattle.std.proofs.lemmas.{Bool.or_parts, List.Folds.list_any-append}
use Rattle.filterset_expression.specs.Expression as compiled
use Rattle.filterset_expression.specs.Expression.{CompiledLeaf, formula, has_leaf, is_default, is_group, leaf_with_default, with_default}
use Rattle.filterset_expression.specs.Formula.{Formula, Leaf, Negation, Compound, leaves, replaced}
use Rattle.filterset_expression.specs.declared.expression.CompiledExpr.{CompiledExpr}

kept_leaf : (default : CompiledExpr) (leaf : CompiledLeaf) → is_default leaf ≡ false → leaf_with_default default leaf ≡ Leaf leaf
kept_leaf default compiled.Default none = absurd (let clash : true ≡ false = none in cc)
kept_leaf default _ none = refl

kept_formula : (default : CompiledExpr) (f : Formula CompiledLeaf) → list_any is_default (leaves f) ≡ false
    → replaced (leaf_with_default default) f ≡ f
kept_formula default (Leaf leaf) none = kept_leaf default leaf (or_parts (is_default leaf) false none).0
kept_formula default (Negation f) none = ap Negation (kept_formula default f none)
kept_formula default (Compound c f g) none =
    let both = or_parts _ _ (sym (list_any-append is_default (leaves f) (leaves g)) ∙ none) in
    let left = kept_formula default f both.0 in
    let right = kept_formula default g both.1 in
    cc

-- the default filter replaces nothing
pub without_default : (default e : CompiledExpr) → has_leaf is_default e ≡ false → with_default default e ≡ formula e
without_default default e none = kept_formula default (formula e) none

-- ---- `group` leaves

no_group_leaf : (default : CompiledExpr) → has_leaf is_group default ≡ false → (leaf : CompiledLeaf) → is_group leaf ≡ false
    → list_any is_group (leaves (leaf_with_default default leaf)) ≡ false
no_group_leaf default none compiled.Default own = none
no_group_leaf default none (compiled.Group matcher span) own = absurd (let clash : true ≡ false = own in cc)
no_group_leaf default none _ own = refl

no_group_formula : (default : CompiledExpr) → has_leaf is_group default ≡ false → (f : Formula CompiledLeaf)
    → list_any is_group (leaves f) ≡ false → list_any is_group (leaves (replaced (leaf_with_default default) f)) ≡ false
no_group_formula default none (Leaf leaf) own = no_group_leaf default none leaf (or_parts (is_group leaf) false own).0
no_group_formula default none (Negation f) own = no_group_formula default none f own
no_group_formula default none (Compound c f g) own =
    let both = or_parts _ _ (sym (list_any-append is_group (leaves f) (leaves g)) ∙ own) in
    list_any-append is_group (leaves (replaced (leaf_with_default default) f)) (leaves (replaced (leaf_with_default default) g))
    ∙ rw (no_group_formula default none f both.0, no_group_formula default none g both.1) refl

-- no `group` leaf comes with the default filter
pub without_groups : (default e : CompiledExpr) → has_leaf is_group default ≡ false → has_leaf is_group e ≡ false
    → list_any is_group (leaves (with_default default e)) ≡ false
without_groups default e none own = no_group_formula default none (formula e) own
