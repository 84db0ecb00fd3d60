use Rattle.filterset_language.specs.Views.{tree_of}
use Rattle.filterset_grammar.specs.AddedParens.{IsWithParens}
use Rattle.filterset_language.proofs.AddingParens.{anything, well_formed, unchanged, reads_back}
use Rattle.filterset_language.proofs.tree.ParsedExpr.with_parens.Goals as goal

pub returns-clause-tree : goal.returns-clause-tree
returns-clause-tree g c = rw c.into_inner-new.ensures (anything c.in_ok-add_parens.ensures.tree)

pub returns-clause-well_formed : goal.returns-clause-well_formed
returns-clause-well_formed g c leaves = rw c.into_inner-new.ensures (well_formed (anything c.in_ok-add_parens.ensures.tree) leaves)

pub returns-clause-unchanged : goal.returns-clause-unchanged
returns-clause-unchanged g c formed = rw c.into_inner-new.ensures (unchanged (anything c.in_ok-add_parens.ensures.tree) formed)

pub returns-clause-reads_back : goal.returns-clause-reads_back
returns-clause-reads_back g c leaves =
    let added : IsWithParens (tree_of c.args.self.now) (tree_of c.into_inner-new.result) = rw c.into_inner-new.ensures (anything c.in_ok-add_parens.ensures.tree) in
    reads_back added c.prove_held.ensures leaves
