use Rattle.std.proofs.Common.{◌∙◌, ap, map}
use Rattle.filterset_display.specs.Remarks.{remark_row}
use Rattle.filterset_answers.specs.Answers.{has_some}
use Rattle.filterset_answers.proofs.checking.push_text.Goals as goal

pub returns : goal.returns
returns c =
    let piece = rw c.as_slice.ensures.value at c.in_ok-push_faults.ensures in (
      piece.0,
      piece.1,
      (map remark_row c.in_ok-faults.faults.items, c.in_ok-faults.ensures, c.has_some.ensures ∙ ap (λ faults. has_some (map remark_row faults)) c.as_slice-2.ensures.value, piece.2),
    )
