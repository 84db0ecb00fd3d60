use Rattle.std.proofs.{Common.◌∙◌, Common.sym, lemmas.Bool.false≢true}
use Rattle.filterset_deciding.proofs.Agreeing.{agrees_of_all, agrees_on}
use Rattle.filterset_deciding.proofs.candidate.make_candidate.Goals as goal

pub returns-then-not-are_constants_right-clause-fault :
    goal.returns-then-not-are_constants_right-clause-fault
returns-then-not-are_constants_right-clause-fault c = λ test agrees.
    false≢true (sym c.if-not-are_constants_right.true ∙ (c.are_constants_right.ensures test).1 (agrees_on _ test c.args.branch.now agrees))

pub returns-clause-test : goal.returns-clause-test
returns-clause-test c = λ test is.
    agrees_of_all test c.args.branch.now (record {
      kind = c.in_ok-kind.ensures.text test (is.query.kind ∙ c.new-2.ensures);
      binary_name = c.in_ok-binary_name.ensures.text test is.query.binary_name;
      binary_id = c.in_ok-binary_id.ensures.text test (is.query.binary_id ∙ c.in_ok-new.ensures ∙ c.as_str.ensures.value);
      test_name = c.in_ok-test_name.ensures.text test (is.query.test_name ∙ c.in_ok-new-2.ensures ∙ c.as_str-2.ensures.value);
      group = c.in_ok-group.ensures.text test is.group;
      packages = (rw c.in-Some-2.is at c.in_ok-package_id.ensures.some) test (is.query.package_id ∙ c.package_id.view_is);
      platform = c.in-Some.ensures.some test is.query.platform;
      constants = (c.are_constants_right.ensures test).0 c.if-not-are_constants_right.false;
    })
