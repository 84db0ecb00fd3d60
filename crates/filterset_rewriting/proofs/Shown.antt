-- Parentheses that show how a tree is read leave it as it is.
use Rattle.std.proofs.Common.{◌≡◌, Bool, true, false, refl, ap, ◌∙◌}
use Rattle.filterset_expression.specs.{declared.logic.Connective.TheVariants.Disjunction, Formula.Formula}
use Rattle.filterset_expression.specs.Meaning.{joined, tree_formula}
use Rattle.filterset_expression.specs.Formula as formulas
use Rattle.filterset_grammar.specs.Printing.{IsBasic, IsNoUnion, WellFormed}
use Rattle.filterset_grammar.specs.Tree.{Tree, Not, Union, Join, Parens, Set}
use Rattle.filterset_grammar.specs.Tree as tree
use Rattle.filterset_rewriting.specs.Showing.{enclosed_if, is_joined, is_joined_otherwise, shown, without_parens}

bare_enclosed : {S : Type 0} (b : Bool) (e : Tree S) → without_parens (enclosed_if b e) ≡ without_parens e
bare_enclosed true e = refl
bare_enclosed false e = refl

pub shown_bare : {S : Type 0} (e : Tree S) → without_parens (shown e) ≡ without_parens e
shown_bare (Not op e) = ap (tree.Not op) (shown_bare e)
shown_bare (Union op l r) =
    let left = bare_enclosed (is_joined l) (shown l) ∙ shown_bare l in
    let right = bare_enclosed (is_joined r) (shown r) ∙ shown_bare r in
    ap (λ (x : Tree _). tree.Union op x (without_parens (enclosed_if (is_joined r) (shown r)))) left
    ∙ ap (tree.Union op (without_parens l)) right
shown_bare (Join op l r) =
    let left = bare_enclosed (is_joined_otherwise op l) (shown l) ∙ shown_bare l in
    ap (λ (x : Tree _). tree.Join op x (without_parens (shown r))) left ∙ ap (tree.Join op (without_parens l)) (shown_bare r)
shown_bare (Parens e) = shown_bare e
shown_bare (Set l) = refl

meaning_enclosed : {S : Type 0} (b : Bool) (e : Tree S) → tree_formula (enclosed_if b e) ≡ tree_formula e
meaning_enclosed true e = refl
meaning_enclosed false e = refl

pub shown_meaning : {S : Type 0} (e : Tree S) → tree_formula (shown e) ≡ tree_formula e
shown_meaning (Not op e) = ap formulas.Negation (shown_meaning e)
shown_meaning (Union op l r) =
    let left = meaning_enclosed (is_joined l) (shown l) ∙ shown_meaning l in
    let right = meaning_enclosed (is_joined r) (shown r) ∙ shown_meaning r in
    ap (λ (x : Formula _). formulas.Compound Disjunction x (tree_formula (enclosed_if (is_joined r) (shown r)))) left
    ∙ ap (formulas.Compound Disjunction (tree_formula l)) right
shown_meaning (Join op l r) =
    let left = meaning_enclosed (is_joined_otherwise op l) (shown l) ∙ shown_meaning l in
    ap (λ (x : Formula _). joined op x (tree_formula (shown r))) left ∙ ap (joined op (tree_formula l)) (shown_meaning r)
shown_meaning (Parens e) = shown_meaning e
shown_meaning (Set l) = refl

no_union_shown : {S : Type 0} (e : Tree S) → IsNoUnion e → IsNoUnion (shown e)
no_union_shown (Not op e) h = tt
no_union_shown (Union op l r) h = absurd h
no_union_shown (Join op l r) h = tt
no_union_shown (Parens e) h = tt
no_union_shown (Set l) h = tt

no_union_enclosed : {S : Type 0} (b : Bool) (e : Tree S) → IsNoUnion e → IsNoUnion (enclosed_if b e)
no_union_enclosed true e h = tt
no_union_enclosed false e h = h

basic_shown : {S : Type 0} (e : Tree S) → IsBasic e → IsBasic (shown e)
basic_shown (Not op e) h = tt
basic_shown (Union op l r) h = absurd h
basic_shown (Join op l r) h = absurd h
basic_shown (Parens e) h = tt
basic_shown (Set l) h = tt

formed_enclosed : {S : Type 0} (b : Bool) (e : Tree S) → WellFormed e → WellFormed (enclosed_if b e)
formed_enclosed true e h = h
formed_enclosed false e h = h

pub shown_formed : {S : Type 0} (e : Tree S) → WellFormed e → WellFormed (shown e)
shown_formed (Not op e) h = (basic_shown e h.0, shown_formed e h.1)
shown_formed (Union op l r) h =
    (no_union_enclosed (is_joined r) (shown r) (no_union_shown r h.0), formed_enclosed (is_joined l) (shown l) (shown_formed l h.1), formed_enclosed (is_joined r) (shown r) (shown_formed r h.2))
shown_formed (Join op l r) h =
    (no_union_enclosed (is_joined_otherwise op l) (shown l) (no_union_shown l h.0), basic_shown r h.1, formed_enclosed (is_joined_otherwise op l) (shown l) (shown_formed l h.2), shown_formed r h.3)
shown_formed (Parens e) h = shown_formed e h
shown_formed (Set l) h = h
