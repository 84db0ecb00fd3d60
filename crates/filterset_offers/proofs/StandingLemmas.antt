-- Candidates that stand, and lists of what comes of them.
use Rattle.std.proofs.Common.{◌≡◌, ◌==◌, Bool, not, List, [], ◌∷◌, ◌++◌, map, length, ap, sym, ◌∙◌, subst}
use Rattle.std.proofs.lemmas.List.{length-map, map-append}
use Rattle.std.specs.List.{AllZip}
use Rattle.filterset_configuration.proofs.Zips.{zip_push}

-- a list of what elements are seen as is empty exactly if there are none
pub seen-some : {A B : Type 0} (f : A → B) (xs : List A) (ys : List B) (answer empty : Bool) → map f xs ≡ ys → answer ≡ not empty
    → empty ≡ (length xs == 0) → answer ≡ not (length ys == 0)
seen-some f xs ys answer empty are is none =
    let same : length ys ≡ length xs = ap length (sym are) ∙ length-map xs f in
    is ∙ ap not (none ∙ ap (λ n. n == 0) (sym same))

-- one more pair
pub zip-pushed : {A B C : Type 0} (R : A → B → Type 0) (g : C → B) (rows : List A) (row : A) (found new : List C) (x : C)
    → new ≡ found ++ x ∷ [] → AllZip R rows (map g found) → R row (g x) → AllZip R (rows ++ row ∷ []) (map g new)
zip-pushed {C = C} R g rows row found new x pushed are is =
    let P : List C → Type 0 = λ ns. AllZip R (rows ++ row ∷ []) (map g ns) in
    subst P (sym pushed) (rw (map-append g found (x ∷ [])) (zip_push R rows (map g found) row (g x) are is))
