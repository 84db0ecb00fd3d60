use Rattle.filterset_matchers.proofs.PatternLemmas.{IsPattern-of_searched}
use Rattle.filterset_matchers.proofs.matcher.pattern.PatternRegex.as_str.Goals as goal

pub returns-clause-read : goal.returns-clause-read
returns-clause-read c = rw (← c.self.view_is) (IsPattern-of_searched _ c.self.inside.searched c.self.invariant)
