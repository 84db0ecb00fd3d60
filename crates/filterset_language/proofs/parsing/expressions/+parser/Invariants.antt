use Rattle.std.proofs.Common.{ℕ, suc, ◌≤◌, Option, length, ◌+◌, ◌*◌}
use Rattle.std.specs.Option.{option_map}
use Rattle.filterset_language.specs.Parsing.Position.{Position, position_of, IsAtOrBehind}
use Rattle.filterset_language.specs.Parsing.Descent.{Placed, boxed_tree, operand_at, and_level_by, join, unite}
use Rattle.filterset_language.specs.Parsing.Words.{joiner_at, or_at}
use Rattle.filterset_language.specs.Parsing.{Recovery.Keeps, Outcome.Faults, Outcome.Going}
use Rattle.filterset_language.proofs.parsing.expressions.+parser.Given as goal

abbrev pub decreases-read_parens : goal.decreases-read_parens
decreases-read_parens l = 6 * length l.input.rest.now + 5

abbrev pub decreases-read_or_level : goal.decreases-read_or_level
decreases-read_or_level l = 6 * length l.input.rest.now + 4

abbrev pub decreases-read_and_level : goal.decreases-read_and_level
decreases-read_and_level l = 6 * length l.input.rest.now + 2

abbrev pub decreases-read_negation : goal.decreases-read_negation
decreases-read_negation l = 6 * length l.input.rest.now + 1

abbrev pub decreases-read_operand : goal.decreases-read_operand
decreases-read_operand l = 6 * length l.input.rest.now

abbrev pub decreases-read_or_rest : goal.decreases-read_or_rest
decreases-read_or_rest l = 6 * length l.first.end.rest.now + 3

abbrev pub decreases-read_and_rest : goal.decreases-read_and_rest
decreases-read_and_rest l = 6 * length l.first.end.rest.now + 1

-- what is still read after the operands so far is what is read from the first operand on
abbrev pub invariant-read_and_rest-loop-joiner : goal.invariant-read_and_rest-loop-joiner
invariant-read_and_rest-loop-joiner l = record {
  same : (n : ℕ) (before : Faults) (total : Option (Placed × Position)) → length l.fn.first.end.rest.now ≤ n → Going joiner_at join l.fn.first.end.text.now before l.fn.faults.items (option_map boxed_tree l.fn.first.value) (position_of l.fn.first.end) (operand_at (suc n)) total → Going joiner_at join l.fn.first.end.text.now before l.faults.items (option_map boxed_tree l.level.value) (position_of l.level.end) (operand_at (suc n)) total;
  stand : Keeps l.fn.first.end.text.now l.fn.faults.items l.faults.items;
  behind : IsAtOrBehind l.fn.first.end l.level.end;
}

abbrev pub decreases-read_and_rest-loop-joiner : goal.decreases-read_and_rest-loop-joiner
decreases-read_and_rest-loop-joiner l = length l.level.end.rest.now

abbrev pub invariant-read_or_rest-loop-operator : goal.invariant-read_or_rest-loop-operator
invariant-read_or_rest-loop-operator l = record {
  same : (n : ℕ) (before : Faults) (total : Option (Placed × Position)) → length l.fn.first.end.rest.now ≤ n → Going or_at unite l.fn.first.end.text.now before l.fn.faults.items (option_map boxed_tree l.fn.first.value) (position_of l.fn.first.end) (and_level_by (operand_at (suc n))) total → Going or_at unite l.fn.first.end.text.now before l.faults.items (option_map boxed_tree l.level.value) (position_of l.level.end) (and_level_by (operand_at (suc n))) total;
  stand : Keeps l.fn.first.end.text.now l.fn.faults.items l.faults.items;
  behind : IsAtOrBehind l.fn.first.end l.level.end;
}

abbrev pub decreases-read_or_rest-loop-operator : goal.decreases-read_or_rest-loop-operator
decreases-read_or_rest-loop-operator l = length l.level.end.rest.now
