-- The steps in which a text is made piece by piece.
use Rattle.std.proofs.Common.{◌≡◌, ℕ, ◌+◌, ◌<◌, List, [], ◌∷◌, ◌++◌, length, map, take, get_or, ◌∙◌, sym, ap, subst, append_assoc}
use Rattle.std.proofs.lemmas.List.{append-nil, map-append, take_more}
use Rattle.filterset_json.specs.Pieces.{Pieces, no_pieces, next_piece}

-- one more piece
pub Pieces-push : {A : Type 0} (P : A → List ℕ → Type 0) (xs : List A) (x : A) (text added : List ℕ) → Pieces P xs text → P x added → Pieces P (xs ++ x ∷ []) (text ++ added)
Pieces-push P xs x text added no_pieces is = subst (Pieces P (x ∷ [])) (append-nil added) (next_piece is no_pieces)
Pieces-push P xs x text added (next_piece {x = y} {xs = ys} {front} {rest} is_first are) is =
    subst (Pieces P (y ∷ (ys ++ x ∷ []))) (sym (append_assoc front rest added)) (next_piece is_first (Pieces-push P ys x rest added are is))

-- the piece of the next element of a list
pub Pieces-more : {A B : Type 0} (P : B → List ℕ → Type 0) (f : A → B) (xs : List A) (i : ℕ) (x : A) (text piece : List ℕ) →
    i < length xs → get_or xs i x ≡ x → Pieces P (map f (take i xs)) text → P (f x) piece → Pieces P (map f (take (i + 1) xs)) (text ++ piece)
Pieces-more P f xs i x text piece lt at are is =
    let more : take (i + 1) xs ≡ take i xs ++ x ∷ [] = take_more xs i x lt ∙ ap (λ y. take i xs ++ y ∷ []) at in
    let mapped : map f (take (i + 1) xs) ≡ map f (take i xs) ++ f x ∷ [] = ap (map f) more ∙ map-append f (take i xs) (x ∷ []) in
    rw mapped (Pieces-push P (map f (take i xs)) (f x) text piece are is)

-- what was added twice
pub added_twice : (old mid new text piece : List ℕ) → mid ≡ old ++ text → new ≡ mid ++ piece → new ≡ old ++ (text ++ piece)
added_twice old mid new text piece first second = second ∙ ap (λ t. t ++ piece) first ∙ append_assoc old text piece
