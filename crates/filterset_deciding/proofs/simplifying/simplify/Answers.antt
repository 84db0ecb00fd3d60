use Rattle.std.proofs.{Common.subst, Common.sym, lemmas.Result.IfOk-weaker}
use Rattle.filterset_grammar.specs.AddedParens.{IsWithParens, HasWellFormedLeaves}
use Rattle.filterset_language.specs.Views.{tree_of}
use Rattle.filterset_deciding.specs.Simplifying.Simplified.{IsSimplified}
use Rattle.filterset_deciding.proofs.Simplified.{simplified, formed}
use Rattle.filterset_deciding.proofs.simplifying.simplify.Goals as goal

pub returns-clause-simplified : goal.returns-clause-simplified
returns-clause-simplified g c =
    let e = tree_of c.args.expr.now in
    IfOk-weaker c.with_parens.result (λ new. IsWithParens (tree_of c.in_ok-left_of.field-0) (tree_of new)) (λ new. IsSimplified e (tree_of new))
    (λ new added. simplified e (tree_of new) (subst (λ k. IsWithParens k (tree_of new)) c.in_ok-left_of.ensures added)) c.with_parens.ensures.tree

pub returns-clause-reads_back : goal.returns-clause-reads_back
returns-clause-reads_back g c all =
    c.with_parens.ensures.reads_back (subst (λ k. HasWellFormedLeaves k) (sym c.in_ok-left_of.ensures) (formed (tree_of c.args.expr.now) all))
