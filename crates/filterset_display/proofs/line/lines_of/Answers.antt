use Rattle.std.proofs.Common.{◌≡◌, ◌==◌, ℕ, List, ◌+◌, ◌++◌, ◌∷◌, [], length, map, get_or, take, arith, ap, sym, ◌∙◌, lit<, refl}
use Rattle.std.specs.Borrow.{Bor}
use Rattle.std.proofs.lemmas.Iterator.Consumers.{YieldsList-end, YieldsList-so_far, YieldsList-turn}
use Rattle.std.proofs.lemmas.Iterator.Splits.{YieldsList-from_str_split}
use Rattle.std.proofs.lemmas.List.{length-map, length_push, map-append, Sums.sum_by_more_le, Sums.sum_by_push}
use Rattle.filterset_display.specs.{Columns.Text, Cutting.line_row, Cutting.numbered, Lines.pieces}
use Rattle.filterset_display.specs.declared.line.Line.{Line}
use Rattle.filterset_display.proofs.LineLemmas.{extent, extent-slice_split, length-le-extent, lines-push}
use Rattle.filterset_display.proofs.line.lines_of.Goals as goal

pub overflow_add-number : goal.overflow_add-number
overflow_add-number c =
    let chain = YieldsList-from_str_split {s = c.into_iter-piece-iterator.result} 10 c.args.text.now (lit< tt) (cc) (cc) (cc) in
    let turn = YieldsList-turn chain c.loop-piece.yielded _ c.loop-piece.yielded_by _ _ c.in-Some.piece c.in-Some.is c.next.ensures.steps in
    let number = c.loop-piece.invariant.number_is in
    omega (arith, number, turn.0, length-le-extent (pieces c.args.text.now), extent-slice_split (λ b. b == 10) c.args.text.now)

pub overflow_add-start-in-loop-piece : goal.overflow_add-start-in-loop-piece
overflow_add-start-in-loop-piece c =
    let texts = pieces c.args.text.now in
    let chain = YieldsList-from_str_split {s = c.into_iter-piece-iterator.result} 10 c.args.text.now (lit< tt) (cc) (cc) (cc) in
    let turn = YieldsList-turn chain c.loop-piece.yielded _ c.loop-piece.yielded_by _ _ c.in-Some.piece c.in-Some.is c.next.ensures.steps in
    let so_far = YieldsList-so_far chain c.loop-piece.yielded _ c.loop-piece.yielded_by in
    let start : c.loop-piece.start ≡ extent (take (length c.loop-piece.yielded) texts) = c.loop-piece.invariant.start_is ∙ ap extent so_far in
    let piece : length c.in-Some.piece.now ≡ length (get_or texts (length c.loop-piece.yielded) c.in-Some.piece.now) = ap length turn.1 in
    let within = sum_by_more_le (λ (t : Text). length t + 1) texts (length c.loop-piece.yielded) c.in-Some.piece.now turn.0 in
    omega (arith, start, piece, within, extent-slice_split (λ b. b == 10) c.args.text.now)

pub loop-piece-preserved : goal.loop-piece-preserved
loop-piece-preserved c =
    let now = λ (x : Bor (List ℕ)). x.now in
    let before = map now c.loop-piece.yielded in
    let text = c.in-Some.piece.now in
    let line : Line = record { number = c.loop-piece.number; start = c.loop-piece.start; text = c.in-Some.piece } in
    let pushed : map now (c.loop-piece.yielded ++ c.in-Some.piece ∷ []) ≡ before ++ text ∷ [] = map-append now c.loop-piece.yielded (c.in-Some.piece ∷ []) in
    let number : c.loop-piece.number ≡ 1 + length before = c.loop-piece.invariant.number_is ∙ ap (λ n. 1 + n) (sym (length-map c.loop-piece.yielded now)) in
    record {
      number_is = omega (arith, c.loop-piece.invariant.number_is, length_push c.loop-piece.yielded c.in-Some.piece);
      start_is = rw (pushed, sum_by_push (λ (t : Text). length t + 1) before text, c.loop-piece.invariant.start_is) refl;
      cut = rw pushed (ap (map line_row) c.in_ok-push.ensures.items ∙ lines-push c.loop-piece.lines.items line before c.loop-piece.invariant.cut number c.loop-piece.invariant.start_is);
    }

pub returns : goal.returns
returns c =
    let chain = YieldsList-from_str_split {s = c.into_iter-piece-iterator.result} 10 c.args.text.now (lit< tt) (cc) (cc) (cc) in
    let whole = YieldsList-end chain c.loop-piece.yielded _ c.loop-piece.yielded_by _ _ c.in-None.is c.next.ensures.steps in
    c.loop-piece.invariant.cut ∙ ap (numbered 1 0) whole.0
