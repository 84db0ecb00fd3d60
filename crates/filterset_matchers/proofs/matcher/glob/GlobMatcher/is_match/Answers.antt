use Rattle.std.proofs.{Common.sym, Common.subst, lemmas.Bool.false≢true}
use Rattle.std.specs.Str.{chars}
use Rattle.filterset_glob.specs.Matching.{Matches}
use Rattle.filterset_matchers.proofs.Literals.{stands_in_name}
use Rattle.filterset_matchers.proofs.matcher.glob.GlobMatcher.is_match.Goals as goal

pub returns-then-not-contains : goal.returns-then-not-contains
returns-then-not-contains c = (
  λ t. absurd (false≢true t),
  λ m. rw (← c.if-not-contains.true)
      (c.contains.ensures.1 (rw c.as_str.ensures.value
      (stands_in_name _ _ _ c.utf8.name c.self.invariant (subst (λ g. Matches g.tokens (chars c.args.name.now)) (sym c.self.view_is) m)))),
)
