-- Texts that are written in pieces.
use Rattle.std.proofs.Common.{◌≡◌, ◌∙◌, ◌++◌, ap, append_assoc}
use Rattle.filterset_display.specs.Columns.{Text}

-- two pieces, one after the other
pub joined : (s t u x y : Text) → t ≡ s ++ x → u ≡ t ++ y → u ≡ s ++ (x ++ y)
joined s t u x y e f = f ∙ ap (λ z. z ++ y) e ∙ append_assoc s x y
