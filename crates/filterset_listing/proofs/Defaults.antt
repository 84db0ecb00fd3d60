-- Where no leaf is `default`, the default filter has no part in the formula.
use Rattle.std.proofs.Common.{◌≡◌, ◌∙◌, true, false, refl, sym, ap}
use Rattle.std.specs.List.{list_any}
use Rattle.std.proofs.lemmas.{Bool.or_parts, List.Folds.list_any-append}
use Rattle.filterset_expression.specs.Expression as compiled
use Rattle.filterset_expression.specs.Expression.{CompiledLeaf, is_default, leaf_with_default}
use Rattle.filterset_expression.specs.Formula.{Formula, Leaf, Negation, Compound, leaves, replaced}
use Rattle.filterset_expression.specs.declared.expression.CompiledExpr.{CompiledExpr}

alike_at : (one other : CompiledExpr) (leaf : CompiledLeaf) → is_default leaf ≡ false → leaf_with_default one leaf ≡ leaf_with_default other leaf
alike_at one other compiled.Default none = absurd (let clash : true ≡ false = none in cc)
alike_at one other _ none = refl

pub alike : (one other : CompiledExpr) (f : Formula CompiledLeaf) → list_any is_default (leaves f) ≡ false
    → replaced (leaf_with_default one) f ≡ replaced (leaf_with_default other) f
alike one other (Leaf leaf) none = alike_at one other leaf (or_parts (is_default leaf) false none).0
alike one other (Negation f) none = ap Negation (alike one other f none)
alike one other (Compound c f g) none =
    let both = or_parts _ _ (sym (list_any-append is_default (leaves f) (leaves g)) ∙ none) in
    let left = alike one other f both.0 in
    let right = alike one other g both.1 in
    cc

-- where no leaf is `default`, there is no place to put a default filter in
stays_at : (default : CompiledExpr) (leaf : CompiledLeaf) → is_default leaf ≡ false → leaf_with_default default leaf ≡ Leaf leaf
stays_at default compiled.Default none = absurd (let clash : true ≡ false = none in cc)
stays_at default _ none = refl

pub put_in : (default : CompiledExpr) (f : Formula CompiledLeaf) → list_any is_default (leaves f) ≡ false → replaced (leaf_with_default default) f ≡ f
put_in default (Leaf leaf) none = stays_at default leaf (or_parts (is_default leaf) false none).0
put_in default (Negation f) none = ap Negation (put_in default f none)
put_in default (Compound c f g) none =
    let both = or_parts _ _ (sym (list_any-append is_default (leaves f) (leaves g)) ∙ none) in
    let left = put_in default f both.0 in
    let right = put_in default g both.1 in
    cc
