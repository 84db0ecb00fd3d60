-- The value of a `NameMatcher`.
use Rattle.std.specs.Prelude.{string_bytes}
use Rattle.filterset_matchers.specs.Matcher as matcher
use Rattle.filterset_matchers.specs.{Matcher.Matcher, declared.matcher.NameMatcher.NameMatcher}
use Rattle.filterset_matchers.specs.declared.matcher.NameMatcher.TheVariants.{Equal, Contains, Glob, Regex}

abbrev pub matcher_of : NameMatcher → Matcher
matcher_of (Equal value implicit) = matcher.Equal (string_bytes value) implicit
matcher_of (Contains value implicit) = matcher.Contains (string_bytes value) implicit
matcher_of (Glob glob implicit) = matcher.Glob glob.text glob.tokens implicit
matcher_of (Regex shared) = matcher.Regex shared.value
