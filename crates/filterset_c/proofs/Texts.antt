-- What `all` answers about texts.
use Rattle.std.proofs.Common.{◌↔◌, ◌<◌, ℕ, true, false, Bool, IsTrue, List, length, refl}
use Rattle.std.specs.{Bool.MatchBool, List.All, List.AllWithin, List.HoldsAt}
use Rattle.std.proofs.lemmas.{Bool.false≢true, Iterator.Search.true_from_All, List.Elements.All-from_all_within}

pub tells_all : {X : Type 0} (P : X → Type 0) (r : Bool) (xs : List X)
    → MatchBool r (AllWithin P xs 0 (length xs)) ((k : ℕ) × (k < length xs) × HoldsAt (λ x. ¬ P x) xs k) → IsTrue r ↔ All P xs
tells_all P true xs cases = (λ _. All-from_all_within P xs cases, λ _. refl)
tells_all P false xs cases =
    (λ e. absurd (false≢true e), λ all. true_from_All P (λ x. ¬ P x) false xs (λ x yes no. no yes) cases all)
