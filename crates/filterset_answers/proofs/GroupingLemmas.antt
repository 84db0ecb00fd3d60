-- Overrides with what their filters are compiled to.
use Rattle.std.proofs.Common.{◌≡◌, ℕ, zero, suc, ◌<◌, arith, List, [], ◌∷◌, Option, Some, None, get_or, length, refl, subst, sym}
use Rattle.std.specs.{List.AllZip, Prelude.option_map, Borrow.Bor}
use Rattle.filterset_expression.specs.{Meaning.IsCompiled, declared.expression.CompiledExpr.CompiledExpr}
use Rattle.filterset_language.specs.Views.{tree_of}
use Rattle.nextest_filtering.specs.declared.filterset.Filterset.{Filterset}
use Rattle.filterset_answers.specs.{Compiled.IsCompiledText, Compiled.IsFilterFor, Picking.compiled_of}
use Rattle.filterset_entries.specs.declared.setting.{OverrideEntry.OverrideEntry, Setting.Setting}
use Rattle.filterset_entries.specs.declared.text.TextEntry.{TextEntry}

-- the expression of a filter is what its text is compiled to
pub compiled_text : (setting : Setting) (entry : OverrideEntry) (made : Option Filterset) (filter : Option (Bor CompiledExpr))
    → option_map (λ e. e.now) filter ≡ option_map compiled_of made → IsFilterFor setting.graph.now setting.groups.now entry made → IsCompiledText setting entry.filter filter
compiled_text setting entry None None same is = subst (λ (text : Option TextEntry). IsCompiledText setting text None) (sym is) refl
compiled_text setting entry None (Some expr) same is = absurd cc
compiled_text setting entry (Some made) None same is = absurd cc
compiled_text setting entry (Some made) (Some expr) same (text, e, is) =
    let own : made.compiled ≡ expr.now = cc in
    subst (λ (text : Option TextEntry). IsCompiledText setting text (Some expr)) (sym e)
    (tree_of made.parsed, expr, refl, is.accepted, subst (IsCompiled setting.graph.now (tree_of made.parsed)) own is.compiled)

-- what holds of two lists place by place holds at a place
pub zipped_at : {A B : Type 0} (R : A → B → Type 0) (xs : List A) (ys : List B) (i : ℕ) (x : A) (y : B) → AllZip R xs ys → i < length xs → R (get_or xs i x) (get_or ys i y)
zipped_at R [] ys i x y all lt = absurd (omega (arith, lt))
zipped_at R (a ∷ xs) [] i x y all lt = absurd all
zipped_at R (a ∷ xs) (b ∷ ys) zero x y all lt = all.0
zipped_at R (a ∷ xs) (b ∷ ys) (suc i) x y all lt = zipped_at R xs ys i x y all.1 (omega (arith, lt))
