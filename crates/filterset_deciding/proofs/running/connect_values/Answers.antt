use Rattle.std.proofs.Common.{◌≡◌, None, refl}
use Rattle.filterset_deciding.specs.declared.running.StackValue.{StackValue}
use Rattle.filterset_deciding.proofs.Waits.{waits_left, waits_right}
use Rattle.filterset_deciding.proofs.running.connect_values.Goals as goal

pub returns-in-None-clause-waits : goal.returns-in-None-clause-waits
returns-in-None-clause-waits c = λ branch own other.
    let made : StackValue = record { value = c.connected-value.result; waits_for = c.args.left.waits_for } in
    waits_left branch c.args.left made c.in-None.is refl own

pub returns-in-Some-clause-waits : goal.returns-in-Some-clause-waits
returns-in-Some-clause-waits c = λ branch own other.
    let made : StackValue = record { value = c.connected-value.result; waits_for = c.args.right.waits_for } in
    waits_right branch c.args.connective c.args.left c.args.right made (λ none. let clash : c.args.left.value ≡ None = none in cc) c.connected-value.ensures refl other
