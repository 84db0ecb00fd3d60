use Rattle.std.proofs.Common.{◌≡◌, ℕ, ◌∙◌, ap, arith, decimal, length, rules}
use Rattle.std.proofs.lemmas.Grind.{common_steps}
use Rattle.filterset_display.proofs.LineLemmas.{length-lines}
use Rattle.filterset_display.specs.declared.drawing.Margin.{Margin}
use Rattle.filterset_display.proofs.drawing.margin_of.Goals as goal

pub returns : goal.returns
returns c =
    let source = c.args.source.now in
    let width : c.len-width.result ≡ length (decimal c.len-count.result) = first_of (search rules, grind (arith, common_steps)) in
    let count : c.len-count.result ≡ length source.lines.items = first_of (search rules, grind (arith, common_steps)) in
    let margin : ℕ → Margin = λ n. record { width = n; color = c.args.color } in
    ap margin (width ∙ ap (λ n. length (decimal n)) (count ∙ length-lines source.text.now source.lines.items source.cut))
