-- What the next reader promises holds from here on.
use Rattle.std.proofs.Common.{◌≡◌, ℕ, List, Result, Ok, Err, refl}
use Rattle.std.specs.Prelude.{IfOk}
use Rattle.filterset_language.specs.Parsing.{Outcome.Faults, Position.IsAtOrBehind, Recovery.Keeps}
use Rattle.filterset_language.specs.declared.parsing.input.{Input.Input, Read.Read}
use Rattle.filterset_language.proofs.{Positions.AtOrBehind-then, Recovering.keeps_then}

pub ends_onward : {X E : Type 0} (a b : Input) (r : Result (Read X) E) → IfOk r (λ x. IsAtOrBehind b x.end) → IsAtOrBehind a b → IfOk r (λ x. IsAtOrBehind a x.end)
ends_onward a b (Ok x) behind ab = AtOrBehind-then a b x.end ab behind
ends_onward a b (Err e) behind ab = tt

pub stands_onward : {X E : Type 0} (t u : List ℕ) (f g h : Faults) (r : Result X E) → IfOk r (λ x. Keeps u g h) → Keeps t f g → u ≡ t → IfOk r (λ x. Keeps t f h)
stands_onward t u f g h (Ok x) keeps first same = keeps_then t u t f g h refl same first keeps
stands_onward t u f g h (Err e) keeps first same = tt
