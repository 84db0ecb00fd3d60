use Rattle.std.proofs.Common.{rules, arith, ◌<◌, ◌≡◌, [], ◌++◌, get_or, length, sym}
use Rattle.std.proofs.lemmas.List.{append-nil, take_all}
use Rattle.filterset_display.specs.Remarks.{remark_row}
use Rattle.filterset_json.proofs.PieceLemmas.{Pieces-more, added_twice}
use Rattle.filterset_json.specs.Pieces.{no_pieces}
use Rattle.filterset_entries.specs.Forms.{IsWritten, writing_of}
use Rattle.filterset_entries.proofs.form.RemarkWriter.push_all.Goals as goal

pub returns : goal.returns
returns c =
    let pieces = c.loop-remark.invariant in
    rw (take_all c.loop-remark.remark-index c.args.remarks.now c.loop-remark-test.false) at pieces

pub loop-remark-preserved : goal.loop-remark-preserved
loop-remark-preserved c =
    let before = c.loop-remark.invariant in
    let piece = c.in_ok-push.ensures in
    let remarks = c.args.remarks.now in
    let i = c.loop-remark.remark-index in
    let remark = c.remark-item.result in
    let lt : i < length remarks = omega (arith, c.loop-remark-test.true) in
    let at : get_or remarks i remark ≡ remark = search (rules, c.remark-item.is) in (
      before.0 ++ piece.0,
      added_twice _ _ _ _ _ before.1 piece.1,
      Pieces-more (IsWritten (writing_of c.args.self.now)) remark_row remarks i remark _ _ lt at before.2 piece.2,
    )

pub loop-remark-init : goal.loop-remark-init
loop-remark-init c = ([], sym (append-nil _), no_pieces)
