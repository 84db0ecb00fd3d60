use Rattle.std.proofs.Common.{◌≡◌, ◌&&◌, ◌==◌, ◌∙◌, sym, ne_eqb, get_or, false}
use Rattle.std.proofs.lemmas.{Bool.and_left, Bool.and_right, Option.IfSome_then}
use Rattle.filterset_configuration.proofs.PieceLemmas.{ends_byte, ends_escape}
use Rattle.filterset_configuration.proofs.content.piece_end.Goals.{else-byte_at-eq92-via-then-byte_at-eq92+else-delimiter-eq34, else-byte_at-eq92-via-else-byte_at-eq92}
use Rattle.filterset_configuration.proofs.content.piece_end.Goals as goal

pub returns-then-delimiter-eq34 : goal.returns-then-delimiter-eq34
returns-then-delimiter-eq34 c =
    IfSome_then c.escape_end.result c.escape_end.ensures
    (λ found ends. ends_escape c.args.delimiter c.args.file.now c.args.at _ found (sym c.byte_at.ensures ∙ c.if-byte_at-eq92.true) c.if-delimiter-eq34.true ends)

pub returns : goal.returns
returns c =
    let other : (get_or c.args.file.now c.args.at 0 == 92 && c.args.delimiter.byte == 34) ≡ false =
    elim c.else-byte_at-eq92.branch [
      | else-byte_at-eq92-via-then-byte_at-eq92+else-delimiter-eq34 w ↦
          and_right (get_or c.args.file.now c.args.at 0 == 92) (c.args.delimiter.byte == 34) (ne_eqb _ _ w.if-delimiter-eq34.false)
      | else-byte_at-eq92-via-else-byte_at-eq92 w ↦
          and_left (get_or c.args.file.now c.args.at 0 == 92) (c.args.delimiter.byte == 34) (ne_eqb _ _ (λ e. w.if-byte_at-eq92.false (c.byte_at.ensures ∙ e)))
    ] in
    ends_byte c.args.delimiter c.args.file.now c.args.at _ c.if-at-file.false other
