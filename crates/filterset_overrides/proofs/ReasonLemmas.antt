-- The lines of overrides with their reasons, one more at a time.
use Rattle.std.proofs.Common.{◌≡◌, ℕ, ◌+◌, ◌<◌, List, [], ◌∷◌, ◌++◌, String, Global, length, map, take, get_or, string_bytes, refl, sym, ap, ◌∙◌, append_assoc, arith}
use Rattle.std.proofs.lemmas.List.{append-nil, length-take-le}
use Rattle.filterset_overrides.specs.ExplainedText.{indented, override_line, override_lines, reason_at}
use Rattle.filterset_overrides.specs.declared.applying.ExplainedOverride.{ExplainedOverride}
use Rattle.filterset_overrides.proofs.ListLemmas.{one_more}

-- one more override behind others
lines_push : (es : List ExplainedOverride) (e : ExplainedOverride) (rs : List (String Global)) → override_lines (es ++ e ∷ []) (map string_bytes rs)
    ≡ override_lines es (map string_bytes rs) ++ (override_line e ++ indented (reason_at rs (length es)))
lines_push [] e [] = refl
lines_push [] e (r ∷ rs) = ap (λ t. override_line e ++ t) (append-nil (indented (string_bytes r)))
lines_push (x ∷ es) e [] =
    ap (λ t. override_line x ++ t) (lines_push es e []) ∙ sym (append_assoc (override_line x) (override_lines es []) (override_line e ++ indented []))
lines_push (x ∷ es) e (r ∷ rs) =
    let more = override_lines es (map string_bytes rs) in
    let last = override_line e ++ indented (reason_at rs (length es)) in
    ap (λ t. override_line x ++ (indented (string_bytes r) ++ t)) (lines_push es e rs)
    ∙ (ap (λ t. override_line x ++ t) (sym (append_assoc (indented (string_bytes r)) more last))
    ∙ sym (append_assoc (override_line x) (indented (string_bytes r) ++ more) last))

pub lines_more : (es : List ExplainedOverride) (rs : List (String Global)) (i : ℕ) (e : ExplainedOverride) → i < length es → get_or es i e ≡ e
    → override_lines (take (i + 1) es) (map string_bytes rs)
    ≡ override_lines (take i es) (map string_bytes rs) ++ (override_line e ++ indented (reason_at rs i))
lines_more es rs i e lt at =
    ap (λ xs. override_lines xs (map string_bytes rs)) (one_more es i e lt at)
    ∙ (lines_push (take i es) e rs
    ∙ ap (λ n. override_lines (take i es) (map string_bytes rs) ++ (override_line e ++ indented (reason_at rs n))) (length-take-le i es (omega (arith, lt))))
