-- Lists of texts and of actions.
use Rattle.std.proofs.Common.{◌≡◌, ◌<◌, ◌+◌, ℕ, zero, suc, List, [], ◌∷◌, ◌++◌, map, get_or, take, length, ap, arith, sym, ◌∙◌, add-one, add-zero}
use Rattle.std.proofs.lemmas.List.{map-append, take_more}
use Rattle.std.specs.{Borrow.Bor, List.range_with_len}
use Rattle.filterset_entries.specs.Checked.{TextRow}
use Rattle.filterset_documents.specs.Joins.{Joins}
use Rattle.filterset_documents.proofs.JoinLemmas.{Joins-push, rows_more}

-- ---- texts

abbrev pub now_of : Bor (List ℕ) → List ℕ
now_of t = t.now

abbrev pub text_in : TextRow → List ℕ
text_in row = row.text

-- what the next element is seen as
pub row_next : {A R B C : Type 0} (f : A → R) (p : R → C) (g : B → C) (xs : List A) (i : ℕ) (x : A) (ys : List B) (y : B)
    → i < length xs → get_or xs i x ≡ x → map g ys ≡ map p (map f (take i xs)) → g y ≡ p (f x)
    → map g (ys ++ y ∷ []) ≡ map p (map f (take (i + 1) xs))
row_next f p g xs i x ys y lt at are is =
    let rows : map p (map f (take (i + 1) xs)) ≡ map p (map f (take i xs)) ++ p (f x) ∷ [] =
    ap (map p) (rows_more f xs i x lt at) ∙ map-append p (map f (take i xs)) (f x ∷ []) in
    map-append g ys (y ∷ []) ∙ ap (λ zs. zs ++ g y ∷ []) are ∙ ap (λ z. map p (map f (take i xs)) ++ z ∷ []) is ∙ sym rows

-- ---- parts

-- the part of the next element
pub Joins-next : {A C D : Type 0} (P : A → List D → Type 0) (g : C → D) (xs : List A) (i : ℕ) (d : A) (ys added : List C)
    → i < length xs → Joins P (take i xs) (map g ys) → P (get_or xs i d) (map g added)
    → Joins P (take (i + 1) xs) (map g (ys ++ added))
Joins-next P g xs i d ys added lt are is =
    rw (take_more xs i d lt, map-append g ys added) (Joins-push P (take i xs) (get_or xs i d) (map g ys) (map g added) are is)

-- one position more
range_more : (a n : ℕ) → range_with_len a (suc n) ≡ range_with_len a n ++ (a + n) ∷ []
range_more a zero = ap (λ k. k ∷ []) (sym (add-zero a))
range_more a (suc n) =
    let same : a + 1 + n ≡ a + suc n = omega arith in
    ap (λ ks. a ∷ ks) (range_more (a + 1) n ∙ ap (λ k. range_with_len (a + 1) n ++ k ∷ []) same)

-- the part of the next position
pub Joins-position : {C D : Type 0} (P : ℕ → List D → Type 0) (g : C → D) (n : ℕ) (ys added : List C)
    → Joins P (range_with_len 0 n) (map g ys) → P n (map g added) → Joins P (range_with_len 0 (n + 1)) (map g (ys ++ added))
Joins-position P g n ys added are is =
    let same : 0 + n ≡ n = omega arith in
    let more : range_with_len 0 (n + 1) ≡ range_with_len 0 n ++ n ∷ [] =
    ap (range_with_len 0) (add-one n) ∙ range_more 0 n ∙ ap (λ k. range_with_len 0 n ++ k ∷ []) same in
    rw (more, map-append g ys added) (Joins-push P (range_with_len 0 n) n (map g ys) (map g added) are is)
