use Rattle.std.proofs.Common.{ap, ◌∙◌, ◌++◌}
use Rattle.filterset_expression.specs.{Expression.formula, FlatSteps.postfix}
use Rattle.filterset_expression.proofs.Passing.{some_steps, default_spliced}
use Rattle.filterset_expression.proofs.flat.passing.push_leaf.Goals.{in-Some+in_ok-push-in-Default+in_ok-extend_from_slice-in-Default, in_default-split_first}
use Rattle.filterset_expression.proofs.flat.passing.push_leaf.Goals as goal

pub returns-after-split_first-clause-passed : goal.returns-after-split_first-clause-passed
returns-after-split_first-clause-passed c = λ default rest e d r l. rw c.in-Default.is (elim c.match-split_first.branch [
  | in-Some+in_ok-push-in-Default+in_ok-extend_from_slice-in-Default w ↦ rw w.operands-is (default_spliced (postfix (formula default)) rest c.args.default.operands.now w.in-Some.others.now c.args.operands.now.items w.extend_from_slice.new.self.items w.in-Some.field-0-0.now c.args.last w.in-Some.ensures.cases.0 e d l r (w.in_ok-extend_from_slice-in-Default.ensures.items ∙ ap (λ s. s ++ w.in-Some.others.now) w.in_ok-push-in-Default.ensures.items))
  | in_default-split_first w ↦ absurd (some_steps (formula default) (e ∙ w.in_default-split_first.ensures.cases))
])
