use Rattle.filterset_matchers.proofs.matcher.NameMatcher.is_match.Goals as goal

pub returns-in-Contains-clause-matches : goal.returns-in-Contains-clause-matches
returns-in-Contains-clause-matches c = rw (c.in-Contains.is, ← c.as_str-in-Contains.ensures.value) c.contains.ensures

pub returns-in-Regex-clause-matches : goal.returns-in-Regex-clause-matches
returns-in-Regex-clause-matches c = rw (c.in-Regex.is, ← c.deref.ensures) c.is_match-in-Regex.ensures
