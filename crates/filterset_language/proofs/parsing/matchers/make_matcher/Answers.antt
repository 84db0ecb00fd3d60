use Rattle.std.proofs.Common.{refl, arith}
use Rattle.std.specs.Prelude.{string_bytes}
use Rattle.filterset_language.proofs.GlobReading.{glob_read, glob_unread, of_fault, glob_found}
use Rattle.filterset_language.proofs.Recovering.{recovers_along, refused, reported}
use Rattle.filterset_language.proofs.parsing.matchers.make_matcher.Goals as goal

pub returns-in-Ok-clause-value : goal.returns-in-Ok-clause-value
returns-in-Ok-clause-value c =
    let value = string_bytes c.args.value in
    let read = glob_read value c.in-Ok.glob.tokens c.args.sign.1 c.in-Ok.ensures.read in
    recovers_along _ _ _ _ refl (rw (c.in-Glob.is, c.in-Ok.ensures.text) read)

pub returns-in_ok-push-in-Err-Fault-clause-value : goal.returns-in_ok-push-in-Err-Fault-clause-value
returns-in_ok-push-in-Err-Fault-clause-value c =
    let never = of_fault _ c.in-Err-Fault.error _ c.in-Err-Fault.field-0-is c.in-Err-Fault.ensures.refused in
    refused _ _ _ _ _ _ c.in_ok-push-in-Err-Fault.ensures.items (omega arith) (rw c.in-Glob.is (glob_unread (string_bytes c.args.value) c.args.sign.1 never))

pub returns-in_ok-push-in-Err-Fault-clause-stand : goal.returns-in_ok-push-in-Err-Fault-clause-stand
returns-in_ok-push-in-Err-Fault-clause-stand c =
    let never = of_fault _ c.in-Err-Fault.error _ c.in-Err-Fault.field-0-is c.in-Err-Fault.ensures.refused in
    let stands = of_fault _ c.in-Err-Fault.error _ c.in-Err-Fault.field-0-is c.in-Err-Fault.ensures.fault in
    reported _ _ _ _ c.in_ok-push-in-Err-Fault.ensures.items
    (rw c.up_to-span.ensures (glob_found c.args.start c.args.end (string_bytes c.args.value) c.in-Err-Fault.error c.requires.spelled never stands))
