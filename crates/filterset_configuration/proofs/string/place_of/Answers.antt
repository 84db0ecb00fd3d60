use Rattle.std.proofs.Common.{◌≡◌, ◌+◌, drop, length, arith}
use Rattle.std.proofs.lemmas.{Bool.OnTrue_at, Grind.common_steps}
use Rattle.filterset_configuration.proofs.StringLemmas.{place-from}
use Rattle.filterset_configuration.proofs.string.place_of.Goals as goal

pub returns-in-Some-2-clause-place : goal.returns-in-Some-2-clause-place
returns-in-Some-2-clause-place c =
    let file = c.args.file.now in
    let string = c.in-Some.string.now in
    let all : c.in-Some-checked_sub.behind + c.args.literal.to ≡ length file = grind (arith, common_steps) in
    let content = rw (c.in-Some-2.is, c.first.ensures, c.is_multi_line.ensures, c.opening_length-opening.ensures.value) at c.in_ok-content.ensures in
    place-from file c.args.text.now string c.args.literal c.in-Some-2.content.origins c.in-Some-2.content.end c.in-Some-checked_sub.behind (grind (arith, common_steps)) all
    (OnTrue_at c.if-not-branch.false c.in_ok-is_read_as.ensures) content
