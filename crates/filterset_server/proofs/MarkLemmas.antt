-- Steps over tokens of documents.
use Rattle.std.proofs.Common.{◌≡◌, ℕ, ◌+◌, ◌<◌, ◌∙◌, ◌++◌, List, ap, append_assoc, drop, get_or, length, sym, take}
use Rattle.std.proofs.lemmas.List.{drop_more, get_or_default}
use Rattle.serde_json.specs.Data.{Data}
use Rattle.filterset_display.specs.declared.positions.Position.{Position}
use Rattle.filterset_documents.specs.Joins.{Joins}
use Rattle.filterset_documents.proofs.JoinLemmas.{Joins-items}
use Rattle.filterset_server.specs.{Highlights.mark_data, Highlights.marks_data, declared.highlighting.Mark.Mark}

-- the part of the next element of a list
pub joins_next : {A D : Type 0} (P : A → List D → Type 0) (xs : List A) (i : ℕ) (d : A) (ys added : List D)
    → i < length xs → Joins P (take i xs) ys → P (get_or xs i d) added → Joins P (take (i + 1) xs) (ys ++ added)
joins_next P xs i d ys added lt are is =
    Joins-items P xs i (get_or xs i d) ys added lt (get_or_default xs i (get_or xs i d) d lt) are is

-- the numbers of one token more
pub marks_more : (marks : List Mark) (i : ℕ) (d : Mark) (whole made new : List Data) (last : Position) → i < length marks
    → whole ≡ made ++ marks_data last (drop i marks) → new ≡ made ++ mark_data last (get_or marks i d)
    → whole ≡ new ++ marks_data (get_or marks i d).range.start (drop (i + 1) marks)
marks_more marks i d whole made new last lt are is =
    let mark : Mark = get_or marks i d in
    let rest : List Mark = drop (i + 1) marks in
    let left : List Mark → List Data = λ ms. made ++ marks_data last ms in
    let behind : List Data → List Data = λ ds. ds ++ marks_data mark.range.start rest in
    are ∙ ap left (drop_more marks i d lt) ∙ sym (append_assoc made (mark_data last mark) (marks_data mark.range.start rest))
    ∙ ap behind (sym is)
