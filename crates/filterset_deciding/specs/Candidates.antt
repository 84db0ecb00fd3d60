-- Why no test of a branch was made.
use Rattle.std.specs.Prelude.{List}
use Rattle.filterset_expression.specs.{Expression.CompiledLeaf, FlatSteps.Step}
use Rattle.filterset_deciding.specs.{AnyTest.AnyTest, Demands.IsDoubtIn, Known.Agrees, Known.steps_in}
use Rattle.filterset_deciding.specs.Texts.{AreComparisons, HasUnsearched}
use Rattle.filterset_deciding.specs.declared.candidate.NoCandidate.{NoCandidate}
use Rattle.filterset_deciding.specs.declared.candidate.NoCandidate.TheVariants.{Impossible, Doubtful, Stopped, OutOfMemory}
use Rattle.filterset_deciding.specs.declared.{demand.Doubt.Doubt, running.ValuedStep.ValuedStep}

-- the doubt is about leaves of these steps, and its matchers do not only compare texts
pub record IsOpenDoubt (steps : List (Step CompiledLeaf)) (doubt : Doubt) : Type 0 where
  pub about : IsDoubtIn steps doubt
  pub not_compared : ¬ AreComparisons doubt.demands.items

-- some doubt is
abbrev pub HasOpen : List (Step CompiledLeaf) → Type 0
HasOpen steps = (doubt : Doubt) × IsOpenDoubt steps doubt

-- the doubt is, and one of its matchers is not searched
pub record IsLeftDoubt (steps : List (Step CompiledLeaf)) (doubt : Doubt) : Type 0 where
  pub is_open : IsOpenDoubt steps doubt
  pub unsearched : HasUnsearched doubt.demands.items

abbrev pub IsFaultOf : List ValuedStep → NoCandidate → Type 0
IsFaultOf branch Impossible = (test : AnyTest) → ¬ Agrees test branch
IsFaultOf branch (Doubtful doubt) = IsLeftDoubt (steps_in branch) doubt
IsFaultOf branch Stopped = HasOpen (steps_in branch)
IsFaultOf branch (OutOfMemory refused) = Unit {0}
