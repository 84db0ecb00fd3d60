-- Parentheses added to a tree change nothing of its formula.
use Rattle.std.proofs.Common.{◌≡◌, refl, ap, ◌∙◌}
use Rattle.filterset_grammar.specs.Tree.{Tree}
use Rattle.filterset_grammar.specs.AddedParens.{IsEnclosedUnless, stands, enclosed, IsWithParens, negation, union, join, parens, leaf}
use Rattle.filterset_expression.specs.{Connectives.Disjunction, Formula.Formula, Formula.Negation, Formula.Compound}
use Rattle.filterset_expression.specs.Meaning.{joined, tree_formula}

enclosed_formula : {S : Type 0} {may : Type 0} {d f : Tree S} → IsEnclosedUnless may d f → tree_formula f ≡ tree_formula d
enclosed_formula (stands h) = refl
enclosed_formula (enclosed h) = refl

pub same_formula : {S : Type 0} {e d : Tree S} → IsWithParens e d → tree_formula d ≡ tree_formula e
same_formula (negation added placed) = ap Negation (enclosed_formula placed ∙ same_formula added)
same_formula (union {op} {l} {a} {r} {b} {d} left right placed) =
    ap (λ (f : Formula _). Compound Disjunction f (tree_formula d)) (same_formula left)
    ∙ ap (Compound Disjunction (tree_formula l)) (enclosed_formula placed ∙ same_formula right)
same_formula (join {op} {l} {a} {c} {r} {b} {d} left first right second) =
    ap (λ (f : Formula _). joined op f (tree_formula d)) (enclosed_formula first ∙ same_formula left)
    ∙ ap (joined op (tree_formula l)) (enclosed_formula second ∙ same_formula right)
same_formula (parens added) = same_formula added
same_formula leaf = refl
