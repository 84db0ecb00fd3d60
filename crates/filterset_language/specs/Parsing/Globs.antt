-- How the text of a glob is read. Public contracts cite `GlobText` instead.
use Rattle.std.specs.Prelude.{ℕ, Bool, List, chars, Option, Some, None, Result, Ok, Err}
use Rattle.filterset_glob.specs.{Reading.reading, Tokens.Tokens, declared.fault.GlobConstructError.GlobConstructError}
use Rattle.filterset_matchers.specs.Matcher.{Matcher, Glob}

-- the glob matcher of a text that was read
abbrev pub glob_by : Result Tokens GlobConstructError → List ℕ → Bool → Option Matcher
glob_by (Ok tokens) value implicit = Some (Glob value tokens implicit)
glob_by (Err fault) value implicit = None

-- the glob matcher of a value, where the value is a glob
abbrev pub glob_in : List ℕ → Bool → Option Matcher
glob_in value implicit = glob_by (reading (chars value)) value implicit
