use Rattle.std.proofs.Common.{string_bytes, subst}
use Rattle.filterset_display.specs.{Edits.IsChanged, Positions.Text}
use Rattle.filterset_display.proofs.ChangeLemmas.{AreChanged-more}
use Rattle.filterset_display.proofs.edits.change_text.Goals as goal

pub loop-next-preserved : goal.loop-next-preserved
loop-next-preserved c =
    let P : Text → Type 0 = λ t. IsChanged c.args.encoding t c.next-item.result (string_bytes c.in_ok-text-2.text) in
    AreChanged-more c.args.encoding c.args.changes.now c.loop-next.next-index c.args.old.now (string_bytes c.loop-next.text) (string_bytes c.in_ok-text-2.text)
    c.next-item.result c.loop-next-test.true c.next-item.is c.loop-next.invariant (subst P c.as_str.ensures.value c.in_ok-text-2.ensures)
