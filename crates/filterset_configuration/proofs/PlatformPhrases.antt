-- The one reading of what begins with a word.
use Rattle.std.proofs.Common.{◌≡◌, ℕ, ◌++◌, true, false, Result, refl, sym, ap, ◌∙◌, arith, subst, ◌⊎◌, inl, inr, ⊎_elim}
use Rattle.std.proofs.lemmas.Bool.{false≢true}
use Rattle.std.specs.{Borrow.Bor, List.All, Prelude.IsTrue, Prelude.codes}
use Rattle.filterset_configuration.specs.PlatformTrees.{name, key_value, Expr, set, literal, negated, all, any, Exprs, Spec, is_named, satisfies}
use Rattle.filterset_configuration.specs.PlatformGrammar.{Sign, Quoted, IsKey, IsNamed, IsWhole, GoesOn, Inside, Expression, Spells, is_triple_byte}
use Rattle.filterset_configuration.specs.{PlatformReading.Gives, declared.platforms.fault.ReadError.ReadError}
use Rattle.filterset_configuration.proofs.PlatformWords.{heads, same_quoted, tails}
use Rattle.filterset_configuration.proofs.PlatformLists.{sign_same}
use Rattle.filterset_json.specs.Shape.{Text}

-- what is returned of an expression is returned of an equal one
pub gives_along : {X Y : Type 0} (view : X → Y) (o : Result (X × Bor Text) ReadError) {y z : Y} {r t : Text}
    → y ≡ z → r ≡ t → Gives view o y r → Gives view o z t
gives_along view o {y} {z} {r} {t} e f g =
    let P : Text → Type 0 = λ x. Gives view o z x in
    let Q : _ → Type 0 = λ x. Gives view o x r in
    subst P f (subst Q e g)

-- no `=` comes next
abbrev pub NoEquals : Text → Type 0
NoEquals s = (t : Text) → ¬ Sign 61 s t

-- the expressions of `all`
pub all_phrase : (e : Expr) (s r : Text) → GoesOn e (codes "all") s r → (es : Exprs) × (e ≡ all es) × (t : Text) × Sign 40 s t × Inside es t r
all_phrase (set (name n)) s r g = absurd (g.0.0.0 refl)
all_phrase (set (key_value k v)) s r g = absurd (g.1.0 (sym g.0))
all_phrase (literal b) s r g = absurd (g.0.0.0 refl)
all_phrase (negated e) s r g = let e : ◌≡◌ {A = ℕ} 97 110 = heads g.0 in absurd (omega arith)
all_phrase (all es) s r g = (es, refl, g.1, g.2, g.3)
all_phrase (any es) s r g = let e : ◌≡◌ {A = ℕ} 108 110 = heads (tails g.0) in absurd (omega arith)

-- those of `any`
pub any_phrase : (e : Expr) (s r : Text) → GoesOn e (codes "any") s r → (es : Exprs) × (e ≡ any es) × (t : Text) × Sign 40 s t × Inside es t r
any_phrase (set (name n)) s r g = absurd (g.0.0.1 refl)
any_phrase (set (key_value k v)) s r g = absurd (g.1.1 (sym g.0))
any_phrase (literal b) s r g = absurd (g.0.0.1 refl)
any_phrase (negated e) s r g = let e : ◌≡◌ {A = ℕ} 97 110 = heads g.0 in absurd (omega arith)
any_phrase (all es) s r g = let e : ◌≡◌ {A = ℕ} 110 108 = heads (tails g.0) in absurd (omega arith)
any_phrase (any es) s r g = (es, refl, g.1, g.2, g.3)

-- the operand of `not`
pub not_phrase : (e : Expr) (s r : Text) → GoesOn e (codes "not") s r → (d : Expr) × (e ≡ negated d) × (t : Text) × (u : Text) × Sign 40 s t × Expression d t u × Sign 41 u r
not_phrase (set (name n)) s r g = absurd (g.0.0.2 refl)
not_phrase (set (key_value k v)) s r g = absurd (g.1.2 (sym g.0))
not_phrase (literal b) s r g = absurd (g.0.0.2 refl)
not_phrase (negated d) s r g = (d, refl, g.1, g.2, g.3, g.4, g.5)
not_phrase (all es) s r g = let e : ◌≡◌ {A = ℕ} 110 97 = heads g.0 in absurd (omega arith)
not_phrase (any es) s r g = let e : ◌≡◌ {A = ℕ} 110 97 = heads g.0 in absurd (omega arith)

-- any other word is alone, or a key with a value
pub setting_phrase : (word : Text) (e : Expr) (s r : Text) → IsKey word → GoesOn e word s r
    → (IsNamed word e × NoEquals s × (r ≡ s)) ⊎ ((v : Text) × (t : Text) × (e ≡ set (key_value word v)) × Sign 61 s t × Quoted v t r)
setting_phrase word (set (name n)) s r key g = inl g
setting_phrase word (set (key_value k v)) s r key g = inr (v, g.2, ap (λ w. set (key_value w v)) (sym g.0), g.3, g.4)
setting_phrase word (literal b) s r key g = inl g
setting_phrase word (negated e) s r key g = absurd (key.2 g.0)
setting_phrase word (all es) s r key g = absurd (key.0 g.0)
setting_phrase word (any es) s r key g = absurd (key.1 g.0)

-- one word is one expression
pub named_one : (word : Text) (e d : Expr) → IsNamed word e → IsNamed word d → e ≡ d
named_one word e d h k = h.1 ∙ sym k.1

-- after `=` nothing is read but a value
pub no_value : (word text behind : Text) (e : Expr) (r : Text) → IsKey word → Sign 61 text behind
    → ((v t : Text) → Quoted v behind t → ⊥) → GoesOn e word text r → ⊥
no_value word text behind e r key at none_there g =
    ⊎_elim
    (λ h. h.1 behind at)
    (λ q.
    let P : Text → Type 0 = λ x. Quoted q.0 x r in
    none_there q.0 r (subst P (sign_same 61 text q.3 at) q.4))
    (setting_phrase word e text r key g)

-- and that one
pub one_value : (word text behind v t : Text) (e : Expr) (r : Text) → IsKey word → Sign 61 text behind → Quoted v behind t
    → GoesOn e word text r → (set (key_value word v) ≡ e) × (t ≡ r)
one_value word text behind v t e r key at quoted g =
    ⊎_elim
    (λ h. absurd (h.1 behind at))
    (λ q.
    let P : Text → Type 0 = λ x. Quoted q.0 x r in
    let same = same_quoted behind quoted (subst P (sign_same 61 text q.3 at) q.4) in
    (ap (λ x. set (key_value word x)) same.0 ∙ sym q.2, same.1))
    (setting_phrase word e text r key g)

-- without `=` the word alone
pub one_name : (word text : Text) (d e : Expr) (r : Text) → IsKey word → NoEquals text → IsNamed word d → GoesOn e word text r → (d ≡ e) × (text ≡ r)
one_name word text d e r key alone named_d g =
    ⊎_elim
    (λ h. (named_one word d e named_d h.0, sym h.2))
    (λ q. absurd (alone q.1 q.3))
    (setting_phrase word e text r key g)

-- what begins as an expression does is no triple
no_triple : (s text : Text) → text ≡ codes "cfg(" ++ s → All (λ b. IsTrue (is_triple_byte b)) text → ⊥
no_triple s text at all_of = false≢true (four (subst (λ (x : Text). All (λ b. IsTrue (is_triple_byte b)) x) at all_of))
  where
    four : All (λ b. IsTrue (is_triple_byte b)) (codes "cfg(" ++ s) → false ≡ true
    four h = h 3 0 (omega arith)

-- and so it is an expression
pub cfg_only : (text inside : Text) (spec : Spec) → text ≡ codes "cfg(" ++ inside → Spells text spec
    → (e : Expr) × (spec ≡ satisfies e) × IsWhole e inside
cfg_only text inside (is_named t) at spells = absurd (no_triple inside text at spells.1)
cfg_only text inside (satisfies e) at spells =
    let P : Text → Type 0 = λ x. IsWhole e x in
    (e, refl, subst P (tails (tails (tails (tails (sym spells.1 ∙ at))))) spells.2)
