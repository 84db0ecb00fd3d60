-- Unions that are made set by set, and what they pick.
use Rattle.std.proofs.Common.{◌≡◌, ◌≢◌, zero, suc, List, [], ◌∷◌, ◌++◌, inl, inr, refl, sym, ap, subst, ◌∙◌, arith}
use Rattle.std.specs.Prelude.{◌↔◌, ◌⊎◌, MatchOption, Option, Some, None}
use Rattle.std.specs.{Global.Box, List.Any}
use Rattle.filterset_expression.specs.declared.logic.Connective.TheVariants.{Disjunction}
use Rattle.filterset_expression.specs.Expression.{CompiledLeaf, formula}
use Rattle.filterset_expression.specs.Formula.{Compound, Formula, Leaf}
use Rattle.filterset_expression.specs.declared.expression.CompiledExpr.{CompiledExpr}
use Rattle.filterset_expression.specs.Expression as compiled
use Rattle.filterset_listing.specs.Union.{AnyDoes, or_one_of, union_formula}

-- ---- how unions are made

-- one more set
or_one_of-push : (f : Formula CompiledLeaf) (exprs : List CompiledExpr) (expr : CompiledExpr) → or_one_of f (exprs ++ expr ∷ []) ≡ Compound Disjunction (or_one_of f exprs) (formula expr)
or_one_of-push f [] expr = refl
or_one_of-push f (e ∷ exprs) expr = or_one_of-push (Compound Disjunction f (formula e)) exprs expr

union_formula-push : (exprs : List CompiledExpr) (expr : CompiledExpr) → exprs ≢ [] → union_formula (exprs ++ expr ∷ []) ≡ Compound Disjunction (union_formula exprs) (formula expr)
union_formula-push [] expr some = absurd (some refl)
union_formula-push (e ∷ exprs) expr some = or_one_of-push (formula e) exprs expr

snoc-some : {A : Type 0} (xs : List A) (x : A) → xs ++ x ∷ [] ≢ []
snoc-some [] x e = cc
snoc-some (y ∷ xs) x e = cc

-- the expression is the union of some sets
abbrev pub IsUnionOf : List CompiledExpr → CompiledExpr → Type 0
IsUnionOf exprs union = (exprs ≢ []) × (formula union ≡ union_formula exprs)

-- the union of the sets before, if there are any, and one more set
pub more_sets : (before : Option (Box CompiledExpr)) (exprs : List CompiledExpr) (expr union : CompiledExpr)
    → MatchOption before (exprs ≡ []) (λ b. IsUnionOf exprs b.value)
    → MatchOption before (formula union ≡ formula expr) (λ b. formula union ≡ Compound Disjunction (formula b.value) (formula expr))
    → IsUnionOf (exprs ++ expr ∷ []) union
more_sets None exprs expr union none is =
    (snoc-some exprs expr, is ∙ ap (λ es. union_formula (es ++ expr ∷ [])) (sym none))
more_sets (Some before) exprs expr union (some, are) is =
    (snoc-some exprs expr, is ∙ ap (λ f. Compound Disjunction f (formula expr)) are ∙ sym (union_formula-push exprs expr some))

-- ---- what unions mean

module _ {A : Type 0} (P : A → Type 0) where
  pub any_none : ¬ Any P []
  any_none any = absurd (omega (arith, any.2))

  pub any_here : (x : A) (xs : List A) → P x → Any P (x ∷ xs)
  any_here x xs p = (0, x, omega arith, refl, p)

  pub any_behind : (x : A) (xs : List A) → Any P xs → Any P (x ∷ xs)
  any_behind x xs any = (suc any.0, any.1, omega (arith, any.2), any.3, any.4)

  -- it holds of the first, or of one behind it
  pub any_parts : (x : A) (xs : List A) → Any P (x ∷ xs) → P x ⊎ Any P xs
  any_parts x xs (zero, y, within, at, p) = inl (subst P (sym at) p)
  any_parts x xs (suc k, y, within, at, p) = inr (k, y, omega (arith, within), at, p)

-- Formulas mean something, a disjunction that one of its operands does.
module _ (Does : Formula CompiledLeaf → Type 0) (either : (f g : Formula CompiledLeaf) → Does (Compound Disjunction f g) ↔ (Does f ⊎ Does g)) where
  abbrev ExprDoes : CompiledExpr → Type 0
  ExprDoes expr = Does (formula expr)

  or_one_of_does : (f : Formula CompiledLeaf) (exprs : List CompiledExpr) → Does (or_one_of f exprs) ↔ (Does f ⊎ Any ExprDoes exprs)
  or_one_of_does f [] = (λ does. inl does, λ one. elim one [ inl does ↦ does | inr none ↦ absurd (any_none ExprDoes none) ])
  or_one_of_does f (e ∷ exprs) =
      let pair = either f (formula e) in
      let more = or_one_of_does (Compound Disjunction f (formula e)) exprs in (
        λ does. elim (more.0 does) [
          | inl both ↦ elim (pair.0 both) [ inl first ↦ inl first | inr second ↦ inr (any_here ExprDoes e exprs second) ]
          | inr later ↦ inr (any_behind ExprDoes e exprs later)
        ],
        λ one. more.1 (elim one [
          | inl first ↦ inl (pair.1 (inl first))
          | inr others ↦ elim (any_parts ExprDoes e exprs others) [ inl second ↦ inl (pair.1 (inr second)) | inr later ↦ inr later ]
        ]),
      )

  -- the union does what one of its sets does, and where there is none, what all tests do
  pub union_does : Does (Leaf compiled.All) → (exprs : List CompiledExpr) → Does (union_formula exprs) ↔ AnyDoes (λ expr. Does (formula expr)) exprs
  union_does all [] = (λ does. inl refl, λ any. all)
  union_does all (expr ∷ exprs) =
      let own = or_one_of_does (formula expr) exprs in (
        λ does. inr (elim (own.0 does) [ inl first ↦ any_here ExprDoes expr exprs first | inr later ↦ any_behind ExprDoes expr exprs later ]),
        λ any. own.1 (elim any [
          | inl none ↦ absurd (let clash : expr ∷ exprs ≡ [] = none in cc)
          | inr one ↦ any_parts ExprDoes expr exprs one
        ]),
      )
