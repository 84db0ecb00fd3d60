use Rattle.std.proofs.Common.{◌≤◌, ◌-◌, drop, length}
use Rattle.filterset_faults.specs.declared.span.SourceSpan.{SourceSpan}
use Rattle.filterset_grammar.specs.{Grammar.Spells, Tree.Tree}
use Rattle.filterset_rewriting.proofs.Nested.{FromHere}
use Rattle.filterset_rewriting.proofs.nesting.find_too_deep.Given as goal

-- the rest of the text passes the limit just if the whole filterset does
abbrev pub invariant-loop-at : goal.invariant-loop-at
invariant-loop-at l = record {
  within : l.at ≤ length l.text;
  rest : (e : Tree SourceSpan) → Spells l.text e
      → FromHere l.limit e (drop l.at l.text) l.levels.outside.items l.levels.base l.levels.level;
}

abbrev pub decreases-loop-at : goal.decreases-loop-at
decreases-loop-at l = length l.text - l.at
