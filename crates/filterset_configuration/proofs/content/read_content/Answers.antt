use Rattle.std.proofs.Common.{arith, ◌≡◌, ◌∙◌, length, sym}
use Rattle.filterset_configuration.proofs.PieceLemmas.{come_done, come_more, come_start}
use Rattle.filterset_configuration.proofs.content.read_content.Goals as goal

pub pieces-init : goal.pieces-init
pieces-init c = record {
  within = c.requires;
  come = λ n after read. rw c.in_ok-origins.ensures.items (come_start c.args.delimiter c.args.file.now c.args.start c.args.text.now after n read);
}

pub pieces-preserved : goal.pieces-preserved
pieces-preserved c =
    record {
      within = c.in-Some.ensures.within;
      come = λ n after read.
          let counted : c.pieces.origins.len ≡ length c.pieces.origins.items = omega (arith, c.pieces.origins.ok.0) in
          rw c.in_ok-push_origins.ensures (come_more c.args.delimiter c.args.file.now c.args.start c.args.text.now after c.pieces.at c.pieces.origins.items c.in-Some.piece
          (c.pieces.invariant.come n after read) (rw c.as_bytes.ensures.value at (sym c.is_end.ensures ∙ c.pieces-test.true)) (rw (c.len.ensures, counted) at c.in-Some.ensures));
    }

pub returns : goal.returns
returns c n after read =
    let last = rw c.as_bytes.ensures.value at (sym c.is_end.ensures ∙ c.pieces-test.false) in
    come_done c.args.delimiter c.args.file.now c.args.start c.args.text.now after c.pieces.at c.pieces.origins.items (c.pieces.invariant.come n after read) last
