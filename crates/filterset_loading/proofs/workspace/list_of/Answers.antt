use Rattle.std.proofs.{Common.inr, lemmas.Result.err_from_is_err_and}
use Rattle.filterset_loading.proofs.workspace.list_of.Goals as goal

pub returns-in_err-check_packages-clause-refused : goal.returns-in_err-check_packages-clause-refused
returns-in_err-check_packages-clause-refused c =
    let error = err_from_is_err_and c.from_residual-in_err-check_packages.result c.from_residual-in_err-check_packages.ensures.1 in
    rw (error.1, error.2) (inr (c.args.run_ignored, c.in_ok-list.list, c.in_ok-list.ensures.read, c.in_err-check_packages.ensures.refused))
