-- Known bytes that grow twice.
use Rattle.std.proofs.Common.{◌≡◌, ℕ, ◌<◌, List, ◌++◌, take, drop, Option, None, Some, Bool, true, false, ◌||◌, ◌&&◌, ◌==◌, ◌∙◌, sym, ap, append_assoc, refl, arith, ne_eqb}
use Rattle.std.proofs.lemmas.List.{take-append-drop}
use Rattle.std.specs.Io.KnownBytes.{Appends}

-- what grew by some bytes and then by more grew by both
pub Appends-then : (old mid new : Option (List ℕ)) (front more : List ℕ) → Appends old mid front → Appends mid new more →
    Appends old new (front ++ more)
Appends-then None mid new front more h k = tt
Appends-then (Some xs) None new front more h k = absurd h
Appends-then (Some xs) (Some ys) None front more h k = absurd k
Appends-then (Some xs) (Some ys) (Some zs) front more h k = k ∙ ap (λ bs. bs ++ more) h ∙ append_assoc xs front more

-- a text in three pieces
pub three_pieces : (text front rest : List ℕ) (n : ℕ) → text ≡ front ++ rest → text ≡ (front ++ take n rest) ++ drop n rest
three_pieces text front rest n h = h ∙ ap (λ bs. front ++ bs) (sym (take-append-drop n rest)) ∙ sym (append_assoc front (take n rest) (drop n rest))

-- a mark stays where the call took a byte
pub unmarked : (new old b : Bool) (n : ℕ) → new ≡ (old || (false || ((n == 0) && b))) → 0 < n → new ≡ old
unmarked new true b n h lt = h
unmarked new false b n h lt = h ∙ rw (ne_eqb n 0 (λ e. omega (arith, e))) refl
