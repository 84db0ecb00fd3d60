use Rattle.std.proofs.Common.{ℕ, zero, suc, ◌<◌, ◌≤◌, ◌^◌, ◌≢◌, arith, rules}
use Rattle.filterset_language.proofs.parsing.escapes.read_code_point.Goals as goal

-- five digits or less
below : (n code : ℕ) → n ≤ 5 → code < 16 ^ n → code < 1048576
below zero code le lt = omega arith
below (suc zero) code le lt = omega arith
below (suc (suc zero)) code le lt = omega arith
below (suc (suc (suc zero))) code le lt = omega arith
below (suc (suc (suc (suc zero)))) code le lt = omega arith
below (suc (suc (suc (suc (suc zero))))) code le lt = omega arith
below (suc (suc (suc (suc (suc (suc n)))))) code le lt = absurd (omega arith)

pub overflow_mul-code : goal.overflow_mul-code
overflow_mul-code c =
    let inv = c.loop-seen.invariant in
    let ne : c.loop-seen.seen ≢ 6 = search rules in
    let few = inv.few in
    let small = below c.loop-seen.seen c.loop-seen.code (omega arith) inv.small in
    omega arith

pub overflow_add-code : goal.overflow_add-code
overflow_add-code c =
    let inv = c.loop-seen.invariant in
    let ne : c.loop-seen.seen ≢ 6 = search rules in
    let few = inv.few in
    let small = below c.loop-seen.seen c.loop-seen.code (omega arith) inv.small in
    let low : c.in_ok-code.field-0 < 16 = let v = c.in_ok-code.ensures.value in omega arith in
    omega arith
