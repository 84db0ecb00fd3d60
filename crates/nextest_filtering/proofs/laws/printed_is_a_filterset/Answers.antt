use Rattle.filterset_grammar.specs.Printing.{printed}
use Rattle.filterset_language.specs.Views.{tree_of}
use Rattle.nextest_filtering.proofs.SameTrees.{is_filterset_too}
use Rattle.nextest_filtering.proofs.laws.printed_is_a_filterset.Goals as goal

pub returns : goal.returns
returns c = λ text kind packages groups is.
    let e = tree_of c.args.expr.now in
    let (d, spells, same) = c.printed_reads_back.ensures.1 (c.spelled_is_well_formed.ensures text e is.reads.spelled) in
    (d, is_filterset_too text (printed e) kind packages groups d e same spells is, same)
