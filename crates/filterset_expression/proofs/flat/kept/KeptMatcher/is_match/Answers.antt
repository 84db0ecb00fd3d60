use Rattle.filterset_expression.proofs.flat.kept.KeptMatcher.is_match.Goals as goal

pub returns-in-Pattern-Regex : goal.returns-in-Pattern-Regex
returns-in-Pattern-Regex c = rw (c.in-Pattern-Regex.is-1, ← c.deref.ensures) c.search.ensures
