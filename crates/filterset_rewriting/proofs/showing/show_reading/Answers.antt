use Rattle.std.proofs.Common.{◌∙◌, ap, subst, sym}
use Rattle.filterset_expression.specs.Meaning.{tree_formula}
use Rattle.filterset_grammar.specs.{Printing.WellFormed, Tree.Tree}
use Rattle.filterset_language.specs.Views.{tree_of}
use Rattle.filterset_rewriting.specs.Showing.{without_parens}
use Rattle.filterset_rewriting.proofs.Shown.{shown_bare, shown_formed, shown_meaning}
use Rattle.filterset_rewriting.proofs.showing.show_reading.Goals as goal

pub returns-clause-tree : goal.returns-clause-tree
returns-clause-tree g c = rw c.into_inner-new.ensures c.in_ok-show.ensures

pub returns-clause-bare : goal.returns-clause-bare
returns-clause-bare g c =
    rw c.into_inner-new.ensures (ap without_parens c.in_ok-show.ensures ∙ shown_bare (tree_of c.args.expr.now))

pub returns-clause-meaning : goal.returns-clause-meaning
returns-clause-meaning g c =
    rw c.into_inner-new.ensures (ap tree_formula c.in_ok-show.ensures ∙ shown_meaning (tree_of c.args.expr.now))

pub returns-clause-reads_back : goal.returns-clause-reads_back
returns-clause-reads_back g c formed =
    let made : WellFormed (tree_of c.into_inner-new.result) = rw c.into_inner-new.ensures (subst (λ (t : Tree _). WellFormed t) (sym c.in_ok-show.ensures) (shown_formed (tree_of c.args.expr.now) formed)) in
    c.printed_reads_back.ensures.1 made
