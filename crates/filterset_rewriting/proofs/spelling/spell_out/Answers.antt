use Rattle.std.proofs.{Common.◌≡◌, Common.subst, Common.sym, lemmas.Result.IfOk-weaker}
use Rattle.filterset_grammar.specs.AddedParens.{HasWellFormedLeaves, IsWithParens}
use Rattle.filterset_language.specs.Views.{tree_of}
use Rattle.filterset_rewriting.specs.Spelling.{spelled_out}
use Rattle.filterset_rewriting.proofs.Spelled.{mean_the_same, no_caret, same_leaves}
use Rattle.filterset_rewriting.proofs.spelling.spell_out.Goals as goal

pub returns-clause-tree : goal.returns-clause-tree
returns-clause-tree g c =
    let is : tree_of c.deref.result.now ≡ spelled_out (tree_of c.args.expr.now) =
    rw c.deref.ensures c.in_ok-spell.ensures in
    IfOk-weaker c.with_parens.result _ _
    (λ new added. subst (λ k. IsWithParens k (tree_of new)) is added) c.with_parens.ensures.tree

pub returns-clause-no_caret : goal.returns-clause-no_caret
returns-clause-no_caret g c =
    IfOk-weaker c.with_parens.result _ _
    (λ new added. no_caret (tree_of c.args.expr.now) (tree_of new) added) (returns-clause-tree g c)

pub returns-clause-meaning : goal.returns-clause-meaning
returns-clause-meaning g c =
    IfOk-weaker c.with_parens.result _ _
    (λ new added. mean_the_same (tree_of c.args.expr.now) (tree_of new) added) (returns-clause-tree g c)

pub returns-clause-reads_back : goal.returns-clause-reads_back
returns-clause-reads_back g c formed =
    let is : tree_of c.deref.result.now ≡ spelled_out (tree_of c.args.expr.now) =
    rw c.deref.ensures c.in_ok-spell.ensures in
    let leaves = same_leaves (tree_of c.args.expr.now) formed in
    c.with_parens.ensures.reads_back (subst (λ k. HasWellFormedLeaves k) (sym is) leaves)
