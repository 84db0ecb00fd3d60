use Rattle.std.proofs.Common.{◌≡◌, ◌+◌, ◌&&◌, true, false, drop, ap, sym, ◌∙◌, arith}
use Rattle.std.proofs.lemmas.{Bool.and_from, Bool.and_left, Bool.and_right, Grind.common_steps}
use Rattle.toml_parser.specs.{Lexical.skip_ws, Lexical.starts_newline, Strings.hex_len}
use Rattle.filterset_configuration.proofs.PieceLemmas.{ends_break, ends_char}
use Rattle.filterset_configuration.proofs.content.escape_end.Goals.{else-is_multi-via-then-is_multi+else-starts_newline, else-is_multi-via-else-is_multi}
use Rattle.filterset_configuration.proofs.content.escape_end.Goals as goal

pub returns-then-starts_newline : goal.returns-then-starts_newline
returns-then-starts_newline c =
    let file = c.args.file.now in
    let escape = c.in-Some.escape.now in
    let breaks : starts_newline (skip_ws escape) ≡ true = ap starts_newline (sym c.skip_ws.ensures.rest) ∙ sym c.starts_newline.ensures ∙ c.if-starts_newline.true in
    ends_break file escape c.skip_blank.result.now c.args.at c.args.is_multi _ c.requires (grind (arith, common_steps)) c.skip_blank.ensures.rest c.skip_blank.ensures.within
    (and_from c.args.is_multi (starts_newline (skip_ws escape)) c.if-is_multi.true breaks)

pub returns : goal.returns
returns c =
    let file = c.args.file.now in
    let escape = c.in-Some.escape.now in
    let test : (c.args.is_multi && starts_newline (skip_ws escape)) ≡ false =
    elim c.else-is_multi.branch [
      | else-is_multi-via-then-is_multi+else-starts_newline w ↦
          and_right c.args.is_multi (starts_newline (skip_ws escape)) (ap starts_newline (sym w.skip_ws.ensures.rest) ∙ sym w.starts_newline.ensures ∙ w.if-starts_newline.false)
      | else-is_multi-via-else-is_multi w ↦ and_left c.args.is_multi (starts_newline (skip_ws escape)) w.if-is_multi.false
    ] in
    let ahead : c.in-Some-split_at_checked.ahead.now ≡ drop c.args.read c.args.text.now = grind (arith, common_steps) in
    let (d, rest, begins, counted) = c.in-Some-first_length.ensures in
    ends_char file escape (drop c.args.read c.args.text.now) rest c.args.at _ c.in-Some-first_length.count d c.args.is_multi c.requires (grind (arith, common_steps)) test
    (ap (λ n. 1 + n) (c.digit_count-size.ensures.value ∙ ap hex_len c.first.ensures)) (omega arith) (sym ahead ∙ begins) counted
