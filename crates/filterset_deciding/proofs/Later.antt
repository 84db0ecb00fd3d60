-- What cannot fail to hold. Whether a predicate matches is a proposition, and nothing decides it without asking.
use Rattle.std.proofs.{Common.◌↔◌, Common.Bool, Common.true, Common.false, Common.refl, lemmas.Bool.false≢true}
use Rattle.std.specs.Bool.{IsTrue}

abbrev pub Later : Type 0 → Type 0
Later P = ¬ (¬ P)

pub at_once : {P : Type 0} → P → Later P
at_once p = λ none. none p

pub bind : {P Q : Type 0} → Later P → (P → Later Q) → Later Q
bind later next = λ none. later (λ p. next p none)

-- some value says whether the proposition holds
pub decided : (P : Type 0) → Later ((v : Bool) × (IsTrue v ↔ P))
decided P none =
    let isnt : ¬ P = λ p. none (true, (λ e. p, λ q. refl)) in
    none (false, (λ e. absurd (false≢true e), λ p. absurd (isnt p)))
