-- Products that are cut off at a greatest number.
use Rattle.std.proofs.Common.{◌≡◌, ◌∙◌, ◌*◌, ◌<◌, ◌≤◌, ⊎_elim, ℕ, zero, suc, ap, arith, min, refl, rules}
use Rattle.std.proofs.lemmas.Bool.{cases_lt}

-- a factor may be cut off before
capped_times : (a b most : ℕ) → min (min a most * b) most ≡ min (a * b) most
capped_times a zero most = omega arith
capped_times a (suc b) most = search (rules, arith, cases_lt)

pub capped_more : (count counted made own rest all most : ℕ) → counted ≡ min own most → made ≡ min (count * counted) most
    → min (count * (own * rest)) most ≡ min all most → min (made * rest) most ≡ min all most
capped_more count counted made own rest all most few is so_far =
    let outer : min (made * rest) most ≡ min (count * counted * rest) most = ap (λ n. min (n * rest) most) is ∙ capped_times (count * counted) rest most in
    let turned : min (count * counted * rest) most ≡ min (min own most * (count * rest)) most = ap (λ n. min (count * n * rest) most) few ∙ ap (λ n. min n most) (omega arith) in
    outer ∙ turned ∙ (capped_times own (count * rest) most) ∙ (ap (λ n. min n most) (omega arith)) ∙ so_far
