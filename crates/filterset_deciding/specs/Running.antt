-- Runs of steps on a stack of values, some of which are unknown.
use Rattle.std.specs.Prelude.{Bool, List, [], ◌∷◌, Option, Some, None, map, reverse}
use Rattle.filterset_expression.specs.{Connectives.kleene, Connectives.kleene_not, Expression.CompiledLeaf}
use Rattle.filterset_expression.specs.FlatSteps.{Step, Push, Negate, Combine, step_of}
use Rattle.filterset_deciding.specs.declared.running.{ValuedStep.ValuedStep, StackValue.StackValue}

-- the values of a stack, from the top
abbrev pub tops : List StackValue → List (Option Bool)
tops stack = reverse (map (λ s. s.value) stack)

-- the stack after a step, whose leaf has this value; none if the step does not find its operands
abbrev pub kleene_step : Step CompiledLeaf → Option Bool → List (Option Bool) → Option (List (Option Bool))
kleene_step (Push leaf) value stack = Some (value ∷ stack)
kleene_step Negate value [] = None
kleene_step Negate value (x ∷ stack) = Some (kleene_not x ∷ stack)
kleene_step (Combine connective) value [] = None
kleene_step (Combine connective) value (y ∷ []) = None
kleene_step (Combine connective) value (y ∷ x ∷ stack) = Some (kleene connective x y ∷ stack)

-- what a run makes of a stack, if there is one
abbrev pub on_stack : (List (Option Bool) → Option (List (Option Bool))) → Option (List (Option Bool)) → Option (List (Option Bool))
on_stack run None = None
on_stack run (Some stack) = run stack

-- the stack after steps
abbrev pub kleene_run : List ValuedStep → List (Option Bool) → Option (List (Option Bool))
kleene_run [] stack = Some stack
kleene_run (p ∷ rest) stack = on_stack (λ s. kleene_run rest s) (kleene_step (step_of p.step) p.value stack)
