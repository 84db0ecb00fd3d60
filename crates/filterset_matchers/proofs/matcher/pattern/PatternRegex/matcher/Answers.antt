use Rattle.filterset_matchers.proofs.PatternLemmas.{HasMatch-of_built}
use Rattle.filterset_matchers.proofs.matcher.pattern.PatternRegex.matcher.Goals as goal
use Rattle.filterset_matchers.proofs.matcher.pattern.PatternRegex.matcher.Goals.{in-Texts, in-Compiled+in_ok-matcher-in-Compiled+in_ok-new-in-Compiled, in-Regex+in_ok-matcher-in-Regex+in_ok-new-in-Regex}

pub invariant_of-result : goal.invariant_of-result
invariant_of-result c =
    elim c.match-self.branch [
      | in-Texts w ↦ rw (w.search-is, ← c.self.view_is, w.deref.ensures.value) (rw w.in-Texts.is at c.self.invariant)
      | in-Compiled+in_ok-matcher-in-Compiled+in_ok-new-in-Compiled w ↦
          rw (w.search-is, ← c.self.view_is, w.in_ok-new-in-Compiled.ensures.ok, w.in_ok-matcher-in-Compiled.ensures, w.deref-in-Compiled.ensures)
          (rw w.in-Compiled.is at c.self.invariant)
      | in-Regex+in_ok-matcher-in-Regex+in_ok-new-in-Regex w ↦
          rw (w.search-is, ← c.self.view_is, w.in_ok-new-in-Regex.ensures.ok, w.in_ok-matcher-in-Regex.ensures.pattern, w.deref-in-Regex.ensures)
          (HasMatch-of_built _ _ (rw w.in-Regex.is at c.self.invariant))
    ]
