use Rattle.std.proofs.lemmas.Result.{err_from_is_err_and}
use Rattle.filterset_asking.proofs.asking.answer_asked.Goals as goal

pub returns-in_ok-ask_workspace-in-List-clause-answered : goal.returns-in_ok-ask_workspace-in-List-clause-answered
returns-in_ok-ask_workspace-in-List-clause-answered c = rw c.in-List.is c.in_ok-ask_workspace-in-List.ensures

pub returns-in_ok-ask_workspace-in-Compare-clause-answered : goal.returns-in_ok-ask_workspace-in-Compare-clause-answered
returns-in_ok-ask_workspace-in-Compare-clause-answered c = rw c.in-Compare.is c.in_ok-ask_workspace-in-Compare.ensures

-- a test is explained as one that counts, or as one that does not
pub returns-in_ok-explain_filterset-in-Explanation-clause-answered : goal.returns-in_ok-explain_filterset-in-Explanation-clause-answered
returns-in_ok-explain_filterset-in-Explanation-clause-answered c =
    let explained = rw c.is_uncounted-is_ignored.ensures at c.in_ok-explain_filterset-in-Explanation.ensures in
    rw c.in-Explanation.is (c.in_ok-candidate-in-Explanation.candidate, c.in_ok-candidate-in-Explanation.ensures.found, explained)

pub returns-in_err-binary-in-Overrides-clause-missing : goal.returns-in_err-binary-in-Overrides-clause-missing
returns-in_err-binary-in-Overrides-clause-missing c =
    let error = err_from_is_err_and c.from_residual-in_err-binary-in-Overrides.result c.from_residual-in_err-binary-in-Overrides.ensures.1 in
    let missing = rw c.name_of-list.ensures at c.in_err-binary-in-Overrides.ensures.missing c.in-Overrides.test in
    rw (error.1, error.2, c.in-Overrides.is, c.in-Some.is) missing

pub returns-in_default-test-clause-answered : goal.returns-in_default-test-clause-answered
returns-in_default-test-clause-answered c =
    let told = rw c.from_ref-own.ensures.value at c.in_ok-ask_workspace-in-Overrides-2.ensures in
    rw (c.in-Overrides.is, c.in-Some.is, c.in_default-test.is) (c.in_ok-binary-in-Overrides.binary.now, c.in_ok-binary-in-Overrides.ensures.found, told)
