use Rattle.std.proofs.Common.{◌∙◌}
use Rattle.filterset_deciding.proofs.packages.make_package.Goals as goal

pub returns-in_ok-try_clone-in-Is-clause-some :
    goal.returns-in_ok-try_clone-in-Is-clause-some
returns-in_ok-try_clone-in-Is-clause-some c = λ test same.
    c.find_package.ensures.is c.in-Is.id c.in-Is.is test (same ∙ c.in_ok-try_clone-in-Is.ensures)

pub returns-in-Impossible-clause-none : goal.returns-in-Impossible-clause-none
returns-in-Impossible-clause-none c = λ test agrees. c.find_package.ensures.impossible c.in-Impossible.is test agrees
