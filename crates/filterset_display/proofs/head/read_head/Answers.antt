use Rattle.std.proofs.Common.{sym, ◌∙◌, ◌≡◌, ◌-◌, ◌+◌, ◌<◌, ap, length, take, Some, arith, refl}
use Rattle.std.proofs.lemmas.Grind.{common_steps}
use Rattle.filterset_display.proofs.HeadLemmas.{head_from-partial, head_from-ended, read-field, read-fault}
use Rattle.filterset_display.specs.Frames.{line_len, behind_line}
use Rattle.filterset_display.proofs.head.read_head.Goals as goal

pub returns-in_default-clause-value : goal.returns-in_default-clause-value
returns-in_default-clause-value c =
    let (n, room, read) = c.lines.invariant.read in
    sym (read ∙ head_from-partial n _ c.lines.found c.lines.rest.now room (sym c.line_len.ensures.value ∙ c.in_default.is))

pub returns-in-Some-found-clause-value : goal.returns-in-Some-found-clause-value
returns-in-Some-found-clause-value c =
    let (n, room, read) = c.lines.invariant.read in
    sym (read ∙ (head_from-ended n _ c.lines.found c.lines.rest.now room (sym c.line_len.ensures.value ∙ (c.in-Some.is ∙ ap Some c.if-len-eq0.true)) ∙ rw c.in-Some-found.is refl))

pub returns-in-None-clause-value : goal.returns-in-None-clause-value
returns-in-None-clause-value c =
    let (n, room, read) = c.lines.invariant.read in
    sym (read ∙ (head_from-ended n _ c.lines.found c.lines.rest.now room (sym c.line_len.ensures.value ∙ (c.in-Some.is ∙ ap Some c.if-len-eq0.true)) ∙ rw c.in-None.is refl))

pub returns-in-None-behind_line-clause-value : goal.returns-in-None-behind_line-clause-value
returns-in-None-behind_line-clause-value c =
    let (n, room, read) = c.lines.invariant.read in
    read-fault n _ c.in-Some.len c.lines.found c.lines.rest.now _ room (sym c.line_len.ensures.value ∙ c.in-Some.is) (omega arith)
    (grind (arith, common_steps)) read

pub lines-preserved : goal.lines-preserved
lines-preserved c =
    let (n, room, read) = c.lines.invariant.read in
    let within = c.lines.invariant.within in
    let some : 0 < c.in-Some.len = omega arith in
    let now : behind_line c.lines.found (take c.in-Some.len c.lines.rest.now) ≡ Some c.in-Some-behind_line.found = grind (arith, common_steps) in
    let (m, fits, more) = read-field n _ c.in-Some.len c.lines.found c.in-Some-behind_line.found c.lines.rest.now _ room (sym c.line_len.ensures.value ∙ c.in-Some.is) some now read in
    let back_len = c.split_at.ensures.back_len in
    let at : (length c.args.bytes.now - length c.lines.rest.now) + (c.in-Some.len + 2) ≡ length c.args.bytes.now - length c.split_at.result.1.now = omega arith in
    record {
      within = omega arith;
      bounded = grind (arith, common_steps);
      read = (m, omega arith, more ∙ rw (at, ← c.split_at.ensures.back) refl);
    }
