use Rattle.std.proofs.lemmas.Result.{err_from_is_err_and}
use Rattle.filterset_asking.proofs.explaining.candidate_of.Goals as goal

pub returns-in_err-binary-in-None-clause-missing : goal.returns-in_err-binary-in-None-clause-missing
returns-in_err-binary-in-None-clause-missing c =
    let error = err_from_is_err_and c.from_residual.result c.from_residual.ensures.1 in
    rw (error.1, error.2) (c.in_err-binary-in-None.ensures.missing c.args.test)
