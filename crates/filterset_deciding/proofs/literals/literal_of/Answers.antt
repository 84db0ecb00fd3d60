use Rattle.std.proofs.lemmas.Result.{IfOk-weaker}
use Rattle.std.specs.Prelude.{IfNone, Option, Some, None}
use Rattle.filterset_deciding.proofs.Rules.{some_weaker}
use Rattle.filterset_deciding.proofs.literals.literal_of.Goals as goal

none_weaker : {X : Type 0} (o : Option X) (P : Type 0) → P → IfNone o P
none_weaker None P p = p
none_weaker (Some x) P p = tt

pub returns-in-Glob-clause-some : goal.returns-in-Glob-clause-some
returns-in-Glob-clause-some c =
    rw c.in-Glob.is (IfOk-weaker c.literal_of_glob.result _ _ (λ found alone. some_weaker found _ _ (λ text is. is c.in-Glob.glob.text c.in-Glob.implicit) alone) c.literal_of_glob.ensures)

pub returns-in-Glob-clause-none : goal.returns-in-Glob-clause-none
returns-in-Glob-clause-none c =
    rw c.in-Glob.is (IfOk-weaker c.literal_of_glob.result _ _ (λ found alone. none_weaker found _ (λ equal. equal)) c.literal_of_glob.ensures)
