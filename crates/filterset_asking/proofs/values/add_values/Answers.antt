use Rattle.std.proofs.Common.{rules, arith, ◌≡◌, ◌∙◌, ◌<◌, ◌+◌, [], ◌∷◌, ◌++◌, ap, get_or, length, subst, sym, take}
use Rattle.std.proofs.lemmas.List.{take_more}
use Rattle.filterset_json.proofs.PieceLemmas.{Pieces-push}
use Rattle.filterset_json.specs.Pieces.{Pieces, no_pieces}
use Rattle.filterset_configuration.specs.declared.wrong.WrongValue.{WrongValue}
use Rattle.filterset_display.specs.Columns.{Text}
use Rattle.filterset_asking.specs.Values.{IsValuePiece}
use Rattle.filterset_asking.proofs.values.add_values.Goals as goal

pub loop-value-init : goal.loop-value-init
loop-value-init c = subst (Pieces (IsValuePiece c.args.form c.args.file) []) (sym c.new-text.ensures.bytes) no_pieces

pub loop-value-preserved : goal.loop-value-preserved
loop-value-preserved c =
    let written : WrongValue → Text → Type 0 = IsValuePiece c.args.form c.args.file in
    let piece = c.in_ok-push.ensures in
    let values = c.args.values.now in
    let i = c.loop-value.value-index in
    let value = c.value-item.result in
    let lt : i < length values = omega (arith, c.loop-value-test.true) in
    let at : get_or values i value ≡ value = search (rules, c.value-item.is) in
    let more : take (i + 1) values ≡ take i values ++ value ∷ [] = take_more values i value lt ∙ ap (λ v. take i values ++ v ∷ []) at in
    rw (more, piece.1) (Pieces-push written (take i values) value _ piece.0 c.loop-value.invariant piece.2)
