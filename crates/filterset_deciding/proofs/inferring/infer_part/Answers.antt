use Rattle.std.proofs.Common.{true, false, string_bytes}
use Rattle.std.specs.Str.Iter.{HasSubslice}
use Rattle.filterset_deciding.proofs.Rules.{only_known, whole_has_part, part_misses_whole}
use Rattle.filterset_deciding.proofs.inferring.infer_part.Goals as goal

pub returns-in_ok-is_match-in-Contains-true-Contains :
    goal.returns-in_ok-is_match-in-Contains-true-Contains
returns-in_ok-is_match-in-Contains-true-Contains c = λ text utf8.
    let arm = c.in-Contains-true-Contains in
    let part = string_bytes arm.part in
    let inner = string_bytes arm.value-2 in
    let hit = c.in_ok-is_match-in-Contains-true-Contains.field-0 in
    let hits = rw (c.as_str.ensures.value, arm.is-2) at c.in_ok-is_match-in-Contains-true-Contains.ensures.matches in
    rw (arm.is-0, arm.is-1, arm.is-2) (λ says. only_known hit true c.only_if.result (HasSubslice text inner) c.only_if.ensures (whole_has_part text part inner hit says hits))

pub returns-in_ok-is_match-in-Contains-false-Contains :
    goal.returns-in_ok-is_match-in-Contains-false-Contains
returns-in_ok-is_match-in-Contains-false-Contains c = λ text utf8.
    let arm = c.in-Contains-false-Contains in
    let part = string_bytes arm.value-0 in
    let whole = string_bytes arm.whole in
    let hit = c.in_ok-is_match-in-Contains-false-Contains.field-0 in
    let hits = rw (c.as_str-in-Contains-false-Contains.ensures.value, arm.is-0) at c.in_ok-is_match-in-Contains-false-Contains.ensures.matches in
    rw (arm.is-0, arm.is-1, arm.is-2) (λ says. only_known hit false c.only_if-in-Contains-false-Contains.result (HasSubslice text whole) c.only_if-in-Contains-false-Contains.ensures (part_misses_whole text part whole hit says hits))
