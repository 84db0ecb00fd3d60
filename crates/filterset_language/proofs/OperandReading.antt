-- What a reader of operands gives, with what it was given by the readers of their parts.
use Rattle.std.proofs.Common.{◌≡◌, ℕ, suc, ◌<◌, ◌≤◌, List, length, Option, Some, None, sym, ◌∙◌, subst, refl}
use Rattle.std.specs.{Prelude.codes, Option.option_map}
use Rattle.filterset_grammar.specs.{Patterns.PatternsAreRead, declared.operators.NotOperator.NotOperator, Tree.Not, Tree.Parens}
use Rattle.filterset_language.specs.Parsing.Position.{Position, skip, after}
use Rattle.filterset_language.specs.Parsed.{LiesOnBody}
use Rattle.filterset_language.specs.Parsing.Descent.{Placed, ◌>>=◌, Reader, Next, Make, operand_at, level_by}
use Rattle.filterset_language.specs.Parsing.Recovery.{Recovers, NoOperand}
use Rattle.filterset_language.specs.Parsing.Outcome.{Faults, GivesTree, reads, fails, Going}
use Rattle.filterset_language.proofs.Recovering.{bind_none}
use Rattle.filterset_language.proofs.ReadingSteps.{less, nothing_step}
use Rattle.filterset_language.proofs.Outcomes.{gives_map, gives_pair, gives_as, lies_in}

pub negation_gives : (text : List ℕ) (op : NotOperator) (f g : Faults) (v w : Option Placed) (q : Position) (r : Option (Placed × Position)) → GivesTree text f g v q r → w ≡ option_map (λ t. Not op t) v → GivesTree text f g w q (r >>= λ e. Some (Not op e.0, e.1))
negation_gives text op f g v w q r read made =
    gives_as PatternsAreRead (LiesOnBody text) _ _ _ _ _ _ _
    (gives_map PatternsAreRead (LiesOnBody text) PatternsAreRead (LiesOnBody text) (λ t. Not op t) (λ e fine. fine) (λ e x lies. lies_in text e (Not op e) x (λ l is. is) lies) f g v q r read)
    made refl

pub parens_gives : (text : List ℕ) (f g h : Faults) (v w : Option Placed) (q u : Position) (r : Option (Placed × Position)) → GivesTree text f g v q r → Recovers g h (Some u) (after (codes ")") (skip q)) → w ≡ option_map (λ t. Parens t) v
    → GivesTree text f h w u (r >>= λ e. after (codes ")") (skip e.1) >>= λ p. Some (Parens e.0, p))
parens_gives text f g h v w q u r read close made =
    let make : Placed → Position → Placed = λ t p. Parens t in
    gives_as PatternsAreRead (LiesOnBody text) _ _ _ _ _ _ _
    (gives_pair PatternsAreRead (LiesOnBody text) PatternsAreRead (LiesOnBody text) make q (λ e fine. fine) (λ e x lies. lies_in text e (Parens e) x (λ l is. is) lies) f g h v u r (λ p. after (codes ")") (skip p)) read close)
    made refl

-- an operand that is read after its first word
pub nested_gives : (text : List ℕ) (n : ℕ) (p q r : Position) (f g : Faults) (v : Option Placed) (nested : Reader → Reader) → length q.rest < length p.rest → length p.rest ≤ n → operand_at (suc n) p ≡ nested (operand_at n) q
    → ((m : ℕ) → length q.rest ≤ m → GivesTree text f g v r (nested (operand_at (suc m)) q)) → GivesTree text f g v r (operand_at (suc n) p)
nested_gives text n p q r f g v nested lt le step read = let k = less n _ _ lt le in rw (step, k.is) (read k.by k.holds)

pub nothing_gives : (text : List ℕ) (n : ℕ) (p s q : Position) (f g : Faults) (v : Option Placed) → NoOperand p s → length f < length g → GivesTree text f g v q (operand_at (suc n) p)
nothing_gives text n p s q f g v nothing lt = fails lt (sym (nothing_step n p s nothing))

-- the same of a text that is equal
pub tree_along : (t u : List ℕ) (f g : Faults) (v : Option Placed) (q : Position) (r : Option (Placed × Position)) → t ≡ u → GivesTree t f g v q r → GivesTree u f g v q r
tree_along t u f g v q r same a = subst (λ (x : List ℕ). GivesTree x f g v q r) same a

pub going_along : {O : Type 0} (next : Next O) (make : Make O) (read : Reader) (t u : List ℕ) (f g : Faults) (left : Option Placed) (p : Position) (total : Option (Placed × Position)) → t ≡ u
    → Going next make t f g left p read total → Going next make u f g left p read total
going_along next make read t u f g left p total same a = subst (λ (x : List ℕ). Going next make x f g left p read total) same a

-- without a first operand there is no level
pub level_misses : {O : Type 0} (next : Next O) (make : Make O) (text : List ℕ) (read : Reader) (f g : Faults) (left : Option Placed) (p q : Position) → read p ≡ None → GivesTree text f g left q (read p) → GivesTree text f g left q (level_by next make read p)
level_misses next make text read f g left p q none (reads e c is) = absurd (let n : None ≡ Some (e, q) = sym none ∙ is in cc)
level_misses next make text read f g left p q none (fails lt is) = fails lt (bind_none (read p) _ is)
