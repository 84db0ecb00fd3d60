-- The lines that rustc writes.
use Rattle.std.proofs.Common.{◌≡◌, ℕ, ◌<◌, suc, List, get_or, [], ◌∷◌, ◌++◌, length, Option, Some, None, ◌≢◌, refl, sym, ap, ◌∙◌}
use Rattle.std.proofs.lemmas.Option.{slice_get-get_or}
use Rattle.std.specs.{Borrow.Bor, List.AllZip, List.slice_get, Prelude.IsSomeAnd, Prelude.MatchOption}
use Rattle.filterset_configuration.proofs.PlatformWords.{tails}
use Rattle.filterset_configuration.specs.{PlatformTrees.Setting, PlatformGrammar.IsLine}
use Rattle.filterset_json.specs.Shape.{Text}

pub one_more_line : (lines : List Text) (ss : List Setting) (line : Text) (s : Setting)
    → AllZip IsLine lines ss → IsLine line s → AllZip IsLine (lines ++ line ∷ []) (ss ++ s ∷ [])
one_more_line [] [] line s h k = (k, tt)
one_more_line [] (t ∷ ss) line s h k = absurd h
one_more_line (l ∷ lines) [] line s h k = absurd h
one_more_line (l ∷ lines) (t ∷ ss) line s h k = (h.0, one_more_line lines ss line s h.1 k)

-- what holds of the line at a position
pub line_at : (all : List Text) (at : ℕ) (P : Text → Type 0) → at < length all → P (get_or all at []) → IsSomeAnd (slice_get all at) P
line_at all at P lt h = rw (slice_get-get_or all at [] lt) h

pub as_many : (lines : List Text) (ss : List Setting) → AllZip IsLine lines ss → length lines ≡ length ss
as_many [] [] h = refl
as_many [] (t ∷ ss) h = absurd h
as_many (l ∷ lines) [] h = absurd h
as_many (l ∷ lines) (t ∷ ss) h = ap suc (as_many lines ss h.1)

-- a value between quotes, after an equals sign
pub value_found : (text rest : Text) (o : Option (Bor Text)) → text ≡ 61 ∷ 34 ∷ rest
    → MatchOption o ((front : Text) → rest ≢ front ++ (34 ∷ [])) (λ x. rest ≡ x.now ++ (34 ∷ []))
    → MatchOption o ((v : Text) → text ≢ 61 ∷ 34 ∷ (v ++ 34 ∷ [])) (λ v. text ≡ 61 ∷ 34 ∷ (v.now ++ 34 ∷ []))
value_found text rest None at h = λ v e. h v (tails (tails (sym at ∙ e)))
value_found text rest (Some x) at h = at ∙ ap (λ t. 61 ∷ 34 ∷ t) h
