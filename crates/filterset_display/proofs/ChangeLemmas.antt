-- Changes, one behind the other.
use Rattle.std.proofs.Common.{◌≡◌, ℕ, ◌+◌, ◌<◌, List, [], ◌∷◌, ◌++◌, length, take, get_or, refl, sym, subst}
use Rattle.std.proofs.lemmas.List.{take_more}
use Rattle.filterset_display.specs.declared.{edits.Change.Change, positions.Encoding.Encoding}
use Rattle.filterset_display.specs.{Positions.Text, Edits.AreChanged, Edits.IsChanged}

AreChanged-push : (e : Encoding) (changes : List Change) (old mid new : Text) (change : Change) → AreChanged e old changes mid
    → IsChanged e mid change new → AreChanged e old (changes ++ change ∷ []) new
AreChanged-push e [] old mid new change is last = let P : Text → Type 0 = λ t. IsChanged e t change new in (new, subst P is last, refl)
AreChanged-push e (c ∷ cs) old mid new change (next, first, later) last = (next, first, AreChanged-push e cs next mid new change later last)

pub AreChanged-more : (e : Encoding) (changes : List Change) (i : ℕ) (old mid new : Text) (change : Change) → i < length changes
    → change ≡ get_or changes i change → AreChanged e old (take i changes) mid → IsChanged e mid change new
    → AreChanged e old (take (i + 1) changes) new
AreChanged-more e changes i old mid new change within is before last =
    let P : List Change → Type 0 = λ cs. AreChanged e old cs new in
    let Q : Change → Type 0 = λ c. AreChanged e old (take i changes ++ c ∷ []) new in
    subst P (sym (take_more changes i change within)) (subst Q is (AreChanged-push e (take i changes) old mid new change before last))
