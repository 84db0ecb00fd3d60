use Rattle.std.proofs.Common.{ℕ, ◌<◌, [], map, get_or, string_bytes}
use Rattle.std.specs.Str.Iter.{HasSubslice}
use Rattle.filterset_matchers.proofs.matcher.pattern.contains_any.Given as goal

-- no text so far stands in the input
abbrev pub invariant-loop-text : goal.invariant-loop-text
invariant-loop-text l = (k : ℕ) → k < l.text-index → ¬ HasSubslice l.input (get_or (map string_bytes l.texts) k [])
