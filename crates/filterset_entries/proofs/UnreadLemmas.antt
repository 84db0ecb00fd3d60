-- The remarks on the operators of filtersets, one filterset after the other.
use Rattle.std.proofs.Common.{◌≡◌, ◌∙◌, ℕ, ◌+◌, ◌<◌, List, [], ◌∷◌, ◌++◌, length, map, take, get_or, ap, append_assoc, refl, sym}
use Rattle.std.proofs.lemmas.List.{append-nil, map-append, take_more}
use Rattle.filterset_display.specs.Remarks.{RemarkRow}
use Rattle.filterset_entries.specs.{Checked.TextRow, Unread.AreAllCaretRemarks, Unread.AreCaretRemarks}

carets-push : (rows : List TextRow) (row : TextRow) (remarks added : List RemarkRow) → AreAllCaretRemarks rows remarks → AreCaretRemarks row added
    → AreAllCaretRemarks (rows ++ row ∷ []) (remarks ++ added)
carets-push [] row remarks added are is = (added, [], is, refl, ap (λ front. front ++ added) are ∙ sym (append-nil added))
carets-push (first ∷ rows) row remarks added (front, rest, is_first, are, made) is =
    (front, rest ++ added, is_first, carets-push rows row rest added are is, ap (λ all. all ++ added) made ∙ append_assoc front rest added)

-- those of the next filterset of a list
pub carets-more : {A : Type 0} (f : A → TextRow) (xs : List A) (i : ℕ) (x : A) (remarks added : List RemarkRow) → i < length xs → get_or xs i x ≡ x
    → AreAllCaretRemarks (map f (take i xs)) remarks → AreCaretRemarks (f x) added
    → AreAllCaretRemarks (map f (take (i + 1) xs)) (remarks ++ added)
carets-more f xs i x remarks added lt at are is =
    rw (take_more xs i x lt, at, map-append f (take i xs) (x ∷ [])) (carets-push (map f (take i xs)) (f x) remarks added are is)
