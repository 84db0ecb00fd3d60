-- Keys of tables, and what is found of rows.
use Rattle.std.proofs.Common.{◌≡◌, ◌+◌, ◌||◌, ◌++◌, ℕ, Bool, List, [], ◌∷◌, append-nil, append_assoc, ap, arith, length, refl, subst, sym, ◌∙◌}
use Rattle.std.specs.List.{list_any}
use Rattle.filterset_configuration.specs.Keys.{Finds, KeyRow, key_row, key_rows}
use Rattle.filterset_configuration.specs.declared.keys.FoundKey.{FoundKey}

-- a test of rows
pub any-rows : (test : KeyRow → Bool) (keys : List FoundKey) → list_any (λ k. test (key_row k)) keys ≡ list_any test (key_rows keys)
any-rows test [] = refl
any-rows test (k ∷ ks) = ap (λ b. test (key_row k) || b) (any-rows test ks)

-- one more row is judged
pub found-next : {R F : Type 0} (Judges : ℕ → R → List F → Type 0) (at : ℕ) (rows : List R) (row : R) (found front : List F) → Finds Judges at rows found
    → Judges (at + length rows) row front → Finds Judges at (rows ++ row ∷ []) (found ++ front)
found-next Judges at [] row found front h judged =
    let here : at + 0 ≡ at = omega arith in
    (front, [], ap (λ fs. fs ++ front) h ∙ sym (append-nil front), subst (λ n. Judges n row front) here judged, refl)
found-next Judges at (r ∷ rows) row found front h judged =
    let next : at + length (r ∷ rows) ≡ at + 1 + length rows = omega arith in (
      h.0,
      h.1 ++ front,
      ap (λ fs. fs ++ front) h.2 ∙ append_assoc h.0 h.1 front,
      h.3,
      found-next Judges (at + 1) rows row h.1 front h.4 (subst (λ n. Judges n row front) next judged),
    )
