-- Matchers for many names.
use Rattle.filterset_matchers.specs.Matcher as matcher
use Rattle.filterset_matchers.specs.{Matcher.Matcher, Matchers.matcher_of}
use Rattle.filterset_offers.specs.declared.ready.ReadyMatcher.{ReadyMatcher, TheVariants.Pattern, TheVariants.Other}

-- the matcher
abbrev pub ready_matcher : ReadyMatcher → Matcher
ready_matcher (Pattern pattern) = matcher.Regex pattern
ready_matcher (Other matcher) = matcher_of matcher.now
