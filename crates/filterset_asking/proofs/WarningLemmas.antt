-- Warnings that are written one after the other.
use Rattle.std.proofs.Common.{◌≡◌, ℕ, suc, add-zero, arith, ◌+◌, List, [], ◌∷◌, ◌++◌, length, sym, subst, append_assoc}
use Rattle.std.proofs.lemmas.List.{append-nil}
use Rattle.filterset_entries.specs.Checked.{TextRow}
use Rattle.filterset_display.specs.{declared.remark.Form.Form, Columns.Text}
use Rattle.filterset_listing.specs.{SubjectValues.Basis, declared.subjects.Subject.Subject}
use Rattle.nextest_filtering.specs.declared.compile.context.KnownGroups.{KnownGroups}
use Rattle.filterset_asking.specs.Warnings.{TextWarnings, WarningsOf, no_texts, next_text}

-- the warnings of one more text
pub WarningsOf-push : (form : Form) (groups : KnownGroups) (basis : Basis) (subjects : List Subject) (n : ℕ) (rows : List TextRow) (row : TextRow) (count more : ℕ) (pieces piece : Text)
    → WarningsOf form groups basis subjects n rows count pieces → TextWarnings form groups basis subjects (n + length rows) row more piece
    → WarningsOf form groups basis subjects n (rows ++ row ∷ []) (count + more) (pieces ++ piece)
WarningsOf-push form groups basis subjects n [] row count more pieces piece no_texts is =
    let here = rw add-zero at is in
    let alone : WarningsOf form groups basis subjects n (row ∷ []) (more + 0) (piece ++ []) = next_text here no_texts in
    let counted : more + 0 ≡ 0 + more = omega arith in
    subst (λ k. WarningsOf form groups basis subjects n (row ∷ []) k piece) counted (subst (WarningsOf form groups basis subjects n (row ∷ []) (more + 0)) (append-nil piece) alone)
WarningsOf-push form groups basis subjects n rows row count more pieces piece (next_text {count = first} {others} {row = u} {rows = us} {front} {rest} is_first are) is =
    let shifted : n + length (u ∷ us) ≡ suc n + length us = omega arith in
    let further : TextWarnings form groups basis subjects (suc n + length us) row more piece = rw shifted at is in
    let longer : WarningsOf form groups basis subjects n (u ∷ (us ++ row ∷ [])) (first + (others + more)) (front ++ (rest ++ piece)) = next_text is_first (WarningsOf-push form groups basis subjects (suc n) us row others more rest piece are further) in
    let counted : first + (others + more) ≡ (first + others) + more = omega arith in
    subst (λ k. WarningsOf form groups basis subjects n (u ∷ (us ++ row ∷ [])) k ((front ++ rest) ++ piece)) counted
    (subst (WarningsOf form groups basis subjects n (u ∷ (us ++ row ∷ [])) (first + (others + more))) (sym (append_assoc front rest piece)) longer)
