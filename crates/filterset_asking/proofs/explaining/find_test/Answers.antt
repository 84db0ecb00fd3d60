use Rattle.std.proofs.{Common.Some, lemmas.Result.err_from_is_err_and}
use Rattle.filterset_asking.proofs.explaining.find_test.Goals as goal

pub returns-in_err-binary-clause-missing : goal.returns-in_err-binary-clause-missing
returns-in_err-binary-clause-missing c =
    let error = err_from_is_err_and c.from_residual.result c.from_residual.ensures.1 in
    rw (error.1, error.2) (c.in_err-binary.ensures.missing (Some c.args.test))
