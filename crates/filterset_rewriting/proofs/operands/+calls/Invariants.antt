use denote.Text.{Utf8}
use denote.Shadow.{shadow}
use Rattle.std.proofs.Common.{ℕ, List, length, ◌+◌, ◌*◌, ◌≤◌}
use Rattle.filterset_faults.specs.declared.span.SourceSpan.{SourceSpan}
use Rattle.filterset_grammar.specs.Tree.{Tree}
use Rattle.filterset_language.specs.Views.{tree_of}
use Rattle.filterset_rewriting.specs.Calls.{AreJoined, AreOpen}
use Rattle.filterset_rewriting.proofs.operands.+calls.Given as goal

abbrev pub decreases-read_front : goal.decreases-read_front
decreases-read_front l = 6 * l.levels

abbrev pub decreases-read_operand : goal.decreases-read_operand
decreases-read_operand l = 6 * l.levels + 1

abbrev pub decreases-join_operands : goal.decreases-join_operands
decreases-join_operands l = 6 * l.levels + 2

abbrev pub decreases-read_list : goal.decreases-read_list
decreases-read_list l = 6 * l.levels + 3

-- what the rest joins to the tree so far, the whole text joins to the first
abbrev pub invariant-join_operands-loop-tree : goal.invariant-join_operands-loop-tree
invariant-join_operands-loop-tree l = record {
  utf8 : shadow (Utf8 l.rest);
  joined : (e : Tree SourceSpan) (behind : List ℕ) → AreJoined l.link (tree_of l.tree) l.rest e behind → AreJoined l.link (tree_of l.fn.first) l.fn.text e behind;
  unclosed : AreOpen l.levels l.rest → AreOpen l.levels l.fn.text;
  within : length l.rest ≤ length l.fn.text;
}

abbrev pub decreases-join_operands-loop-tree : goal.decreases-join_operands-loop-tree
decreases-join_operands-loop-tree l = length l.rest
