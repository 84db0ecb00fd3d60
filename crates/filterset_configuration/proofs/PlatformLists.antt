-- The one reading of a list of expressions.
use Rattle.std.proofs.Common.{◌≡◌, ℕ, List, ◌∷◌, ◌++◌, [], refl, sym, ap, subst, ◌∙◌, arith, ◌⊎◌, inl, inr, Vec, Global, Result, Ok, Err}
use Rattle.std.specs.{Prelude.IfOk, Borrow.Bor}
use Rattle.filterset_configuration.specs.declared.platforms.{expressions.CfgExpr.CfgExpr, fault.ReadError.ReadError}
use Rattle.filterset_configuration.specs.PlatformTrees.{Expr, Exprs, none, more, expr_of, exprs_of}
use Rattle.filterset_configuration.specs.PlatformGrammar.{Sign, Inside, Expression}
use Rattle.filterset_configuration.proofs.PlatformWords.{heads, no_word, tails}
use Rattle.filterset_json.specs.Shape.{Text}

infixr 40 ◌⊕◌
abbrev pub ◌⊕◌ : Exprs → Exprs → Exprs
none ⊕ es = es
(more d ds) ⊕ es = more d (ds ⊕ es)

pub append_none : (ds : Exprs) → ds ⊕ none ≡ ds
append_none none = refl
append_none (more d ds) = ap (more d) (append_none ds)

pub append_one : (ds : Exprs) (e : Expr) (es : Exprs) → (ds ⊕ more e none) ⊕ es ≡ ds ⊕ more e es
append_one none e es = refl
append_one (more d ds) e es = ap (more d) (append_one ds e es)

pub exprs_of_append : (xs : List CfgExpr) (x : CfgExpr) → exprs_of (xs ++ x ∷ []) ≡ exprs_of xs ⊕ more (expr_of x) none
exprs_of_append [] x = refl
exprs_of_append (y ∷ xs) x = ap (more (expr_of y)) (exprs_of_append xs x)

-- what follows an expression of a list
abbrev pub Tail : Exprs → Text → Text → Type 0
Tail es t r = ((es ≡ none) × Sign 41 t r) ⊎ ((u : Text) × Sign 44 t u × Inside es u r)

signs_apart : (s : Text) {t u : Text} → Sign 41 s t → Sign 44 s u → ⊥
signs_apart s a b = let e : ◌≡◌ {A = ℕ} 41 44 = heads (sym a ∙ b) in omega arith

pub sign_same : (c : ℕ) (s : Text) {t u : Text} → Sign c s t → Sign c s u → t ≡ u
sign_same c s a b = tails (sym a ∙ b)

-- where a parenthesis comes first, no expression is left
pub ended : (ds : Exprs) (s t r : Text) → Sign 41 s t → Inside ds s r → (ds ≡ none) × (t ≡ r)
ended none s t r at inside = (refl, sign_same 41 s at inside)
ended (more d ds) s t r at inside = absurd (no_word s at inside.1.2)

-- and else one comes first
pub goes_on : (ds : Exprs) (s r : Text) → ((t : Text) → Sign 41 s t → ⊥) → Inside ds s r
    → (d : Expr) × (es : Exprs) × (t : Text) × (ds ≡ more d es) × Expression d s t × Tail es t r
goes_on none s r closed inside = absurd (closed r inside)
goes_on (more d es) s r closed inside = (d, es, inside.0, refl, inside.1, inside.2)

-- after a comma the list goes on
pub after_comma : (es : Exprs) (t u r : Text) → Sign 44 t u → Tail es t r → Inside es u r
after_comma es t u r comma (inl h) = absurd (signs_apart t h.1 comma)
after_comma es t u r comma (inr h) = let P : Text → Type 0 = λ x. Inside es x r in subst P (sign_same 44 t h.1 comma) h.2

-- where no comma comes, it ends
pub no_comma : (es : Exprs) (t r : Text) → ((u : Text) → Sign 44 t u → ⊥) → Tail es t r → (es ≡ none) × Sign 41 t r
no_comma es t r missing (inl h) = h
no_comma es t r missing (inr h) = absurd (missing h.0 h.1)

-- what a reader of the last expression returns is the whole list
pub closes_read : (text behind : Text) (es : Exprs) (o : Result (Vec CfgExpr Global × Bor Text) ReadError)
    → ((r : Text) → Sign 41 behind r → Inside es text r)
    → IfOk o (λ x. (exprs_of x.0.items ≡ es) × Sign 41 behind x.1.now) → IfOk o (λ x. Inside (exprs_of x.0.items) text x.1.now)
closes_read text behind es (Ok x) h read = let P : Exprs → Type 0 = λ y. Inside y text x.1.now in subst P (sym read.0) (h x.1.now read.1)
closes_read text behind es (Err e) h read = tt
