-- Lists beside lists.
use Rattle.std.proofs.Common.{◌≡◌, ℕ, ◌+◌, ◌<◌, suc, List, [], ◌∷◌, ◌++◌, length, map, take, drop, get_or, replicate, refl, sym, ap, subst, ◌∙◌, append_assoc}
use Rattle.std.specs.List.{AllZip, flat_map, zip}
use Rattle.std.proofs.lemmas.List.{append-nil, flat_map_more, take_more, take-append-drop}
use Rattle.std.proofs.Math.Seq.{drop-cons}
pub use Rattle.std.proofs.lemmas.Slice.Zip.{all_zipped_more as AllZip-push}
use Rattle.filterset_overrides.specs.Counting.{EachAfter}

-- one more element of a list
pub one_more : {A : Type 0} (xs : List A) (i : ℕ) (x : A) → i < length xs → get_or xs i x ≡ x → take (i + 1) xs ≡ take i xs ++ x ∷ []
one_more xs i x lt at = take_more xs i x lt ∙ ap (λ y. take i xs ++ y ∷ []) at

-- a list around one of its elements
pub split_at : {A : Type 0} (xs : List A) (i : ℕ) (x : A) → i < length xs → get_or xs i x ≡ x → xs ≡ take i xs ++ x ∷ drop (suc i) xs
split_at xs i x lt at =
    sym (take-append-drop i xs) ∙ ap (λ ys. take i xs ++ ys) (drop-cons xs i x lt ∙ ap (λ y. y ∷ drop (suc i) xs) at)

pub map_append : {A B : Type 0} (f : A → B) (xs ys : List A) → map f (xs ++ ys) ≡ map f xs ++ map f ys
map_append f [] ys = refl
map_append f (x ∷ xs) ys = ap (λ zs. f x ∷ zs) (map_append f xs ys)

-- one more element with those before it
pub EachAfter-push : {A B : Type 0} (R : List A → A → B → Type 0) (before xs : List A) (ys : List B) (x : A) (y : B)
    → EachAfter R before xs ys → R (before ++ xs) x y → EachAfter R before (xs ++ x ∷ []) (ys ++ y ∷ [])
EachAfter-push R before [] [] x y each one = (subst (λ zs. R zs x y) (append-nil before) one, tt)
EachAfter-push R before [] (v ∷ ys) x y each one = absurd each
EachAfter-push R before (u ∷ xs) [] x y each one = absurd each
EachAfter-push R before (u ∷ xs) (v ∷ ys) x y each one =
    (each.0, EachAfter-push R (before ++ u ∷ []) xs ys x y each.1 (subst (λ zs. R zs x y) (sym (append_assoc before (u ∷ []) xs)) one))

-- what two lists say of a third gives what their pairs say of it
pub AllZip-zip : {A B C D : Type 0} (P : A → B → Type 0) (Q : A → C → Type 0) (R : A → D → Type 0) (f : B × C → D)
    → ((x : A) (b : B) (c : C) → P x b → Q x c → R x (f (b, c)))
    → (xs : List A) (bs : List B) (cs : List C) → AllZip P xs bs → AllZip Q xs cs → AllZip R xs (map f (zip bs cs))
AllZip-zip P Q R f gives [] [] [] ps qs = tt
AllZip-zip P Q R f gives [] [] (c ∷ cs) ps qs = absurd qs
AllZip-zip P Q R f gives [] (b ∷ bs) cs ps qs = absurd ps
AllZip-zip P Q R f gives (x ∷ xs) [] cs ps qs = absurd ps
AllZip-zip P Q R f gives (x ∷ xs) (b ∷ bs) [] ps qs = absurd qs
AllZip-zip P Q R f gives (x ∷ xs) (b ∷ bs) (c ∷ cs) ps qs = (gives x b c ps.0 qs.0, AllZip-zip P Q R f gives xs bs cs ps.1 qs.1)

-- what a list says gives what its image says
pub AllZip-mapped : {A B C : Type 0} (P : A → B → Type 0) (R : A → C → Type 0) (f : B → C) → ((x : A) (b : B) → P x b → R x (f b))
    → (xs : List A) (bs : List B) → AllZip P xs bs → AllZip R xs (map f bs)
AllZip-mapped P R f gives [] [] ps = tt
AllZip-mapped P R f gives [] (b ∷ bs) ps = absurd ps
AllZip-mapped P R f gives (x ∷ xs) [] ps = absurd ps
AllZip-mapped P R f gives (x ∷ xs) (b ∷ bs) ps = (gives x b ps.0, AllZip-mapped P R f gives xs bs ps.1)

pub AllZip-weaker : {A B : Type 0} (P R : A → B → Type 0) → ((x : A) (b : B) → P x b → R x b) → (xs : List A) (bs : List B) → AllZip P xs bs → AllZip R xs bs
AllZip-weaker P R gives [] [] ps = tt
AllZip-weaker P R gives [] (b ∷ bs) ps = absurd ps
AllZip-weaker P R gives (x ∷ xs) [] ps = absurd ps
AllZip-weaker P R gives (x ∷ xs) (b ∷ bs) ps = (gives x b ps.0, AllZip-weaker P R gives xs bs ps.1)

pub AllZip-length : {A B : Type 0} (R : A → B → Type 0) (xs : List A) (ys : List B) → AllZip R xs ys → length xs ≡ length ys
AllZip-length R [] [] all = refl
AllZip-length R [] (y ∷ ys) all = absurd all
AllZip-length R (x ∷ xs) [] all = absurd all
AllZip-length R (x ∷ xs) (y ∷ ys) all = ap suc (AllZip-length R xs ys all.1)

-- the same of each
pub AllZip-replicate : {A B : Type 0} (R : A → B → Type 0) (y : B) → ((x : A) → R x y) → (xs : List A) → AllZip R xs (replicate (length xs) y)
AllZip-replicate R y gives [] = tt
AllZip-replicate R y gives (x ∷ xs) = (gives x, AllZip-replicate R y gives xs)

-- one more of a mapped list
pub map_more : {A B : Type 0} (f : A → B) (xs : List A) (i : ℕ) (x : A) → i < length xs → get_or xs i x ≡ x → map f (take (i + 1) xs) ≡ map f (take i xs) ++ f x ∷ []
map_more f xs i x lt at = ap (map f) (one_more xs i x lt at) ∙ map_append f (take i xs) (x ∷ [])

pub flat_more : {A B : Type 0} (f : A → List B) (xs : List A) (i : ℕ) (x : A) → i < length xs → get_or xs i x ≡ x → flat_map f (take (i + 1) xs) ≡ flat_map f (take i xs) ++ f x
flat_more f xs i x lt at = ap (flat_map f) (one_more xs i x lt at) ∙ sym (flat_map_more f [] (take i xs) x)

-- one more behind others
pub behind : {A : Type 0} (before xs more whole : List A) → whole ≡ xs ++ more → (before ++ xs) ++ more ≡ before ++ whole
behind before xs more whole is = append_assoc before xs more ∙ ap (λ zs. before ++ zs) (sym is)

-- what two lists say of a third gives something of the second
pub AllZip-both : {A B C : Type 0} (P : A → B → Type 0) (Q R : A → C → Type 0)
    → ((x : A) (b : B) (c : C) → P x b → Q x c → R x c)
    → (xs : List A) (bs : List B) (cs : List C) → AllZip P xs bs → AllZip Q xs cs → AllZip R xs cs
AllZip-both P Q R gives [] [] [] ps qs = tt
AllZip-both P Q R gives [] [] (c ∷ cs) ps qs = absurd qs
AllZip-both P Q R gives [] (b ∷ bs) cs ps qs = absurd ps
AllZip-both P Q R gives (x ∷ xs) [] cs ps qs = absurd ps
AllZip-both P Q R gives (x ∷ xs) (b ∷ bs) [] ps qs = absurd qs
AllZip-both P Q R gives (x ∷ xs) (b ∷ bs) (c ∷ cs) ps qs = (gives x b c ps.0 qs.0, AllZip-both P Q R gives xs bs cs ps.1 qs.1)

-- a list whose image is a front of another, with one more
pub pushed_map : {A B : Type 0} (f : A → B) (ys : List A) (y : A) (xs : List B) (i : ℕ) (x : B) → i < length xs → get_or xs i x ≡ x
    → map f ys ≡ take i xs → f y ≡ x → map f (ys ++ y ∷ []) ≡ take (i + 1) xs
pushed_map f ys y xs i x lt at front same =
    map_append f ys (y ∷ []) ∙ (ap (λ zs. zs ++ f y ∷ []) front ∙ (ap (λ z. take i xs ++ z ∷ []) same ∙ sym (one_more xs i x lt at)))

-- a list whose image is that of a front of another, with one more
pub both_mapped : {A B C : Type 0} (f : A → C) (g : B → C) (ys : List A) (y : A) (xs : List B) (i : ℕ) (d : B) → i < length xs
    → map f ys ≡ map g (take i xs) → f y ≡ g (get_or xs i d) → map f (ys ++ y ∷ []) ≡ map g (take (i + 1) xs)
both_mapped f g ys y xs i d lt front same =
    map_append f ys (y ∷ []) ∙ (ap (λ zs. zs ++ f y ∷ []) front ∙ (ap (λ z. map g (take i xs) ++ z ∷ []) same
    ∙ sym (ap (map g) (take_more xs i d lt) ∙ map_append g (take i xs) (get_or xs i d ∷ []))))

-- three texts behind another
pub three_more : (a b c d x y z : List ℕ) → b ≡ a ++ x → c ≡ b ++ y → d ≡ c ++ z → d ≡ a ++ (x ++ (y ++ z))
three_more a b c d x y z first second third =
    third ∙ (ap (λ t. t ++ z) (second ∙ (ap (λ t. t ++ y) first ∙ append_assoc a x y)) ∙ (append_assoc a (x ++ y) z ∙ ap (λ t. a ++ t) (append_assoc x y z)))
