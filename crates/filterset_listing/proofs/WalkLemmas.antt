-- The steps of a walk over overrides, and what it answers.
use Rattle.std.proofs.Common.{◌≡◌, ◌∙◌, ℕ, ◌+◌, ◌<◌, length, get_or, map, drop, drop-cons, add-one, Bool, true, false, List, [], ◌∷◌, Option, Some, None, cond, refl, sym, ap, subst, inl, inr, unwrap_or}
use Rattle.std.specs.Prelude.{All, ◌≢◌, ◌↔◌, ◌⊎◌, IsTrue, MatchBool, codes}
use Rattle.std.proofs.lemmas.Bool.{false≢true}
use Rattle.filterset_expression.specs.declared.expression.CompiledExpr.{CompiledExpr}
use Rattle.filterset_expression.specs.declared.query.{BinaryQuery.BinaryQuery, TestQuery.TestQuery}
use Rattle.filterset_listing.specs.Asking.{Text}
use Rattle.filterset_listing.specs.Groups.{Applies, Covers, IsAnswer, MayBeIn, applies}
use Rattle.filterset_listing.specs.Overrides.{Finishes, Joins, MayApply, StepsOn, given_of}
use Rattle.filterset_listing.specs.declared.groups.{GroupOverride.GroupOverride, Seen.Seen}
use Rattle.filterset_listing.specs.declared.groups.Step.TheVariants.{Decided, Open}
use Rattle.filterset_listing.specs.declared.groups.TestAnswer.{TestAnswer, TheVariants.Known, TheVariants.Unknown}
use Rattle.filterset_listing.specs.declared.groups.ToldOverride.{ToldOverride}

-- two truth values are equal or not
either_way : (x y : Bool) → (x ≡ y) ⊎ (x ≢ y)
either_way true true = inl refl
either_way false false = inl refl
either_way true false = inr (λ e. false≢true (sym e))
either_way false true = inr (λ e. false≢true e)

-- what the value of one group says of it, where the value of another is that one or not
differs : (x y : Bool) (P : Type 0) → x ≢ y → (IsTrue y ↔ P) → MatchBool x (¬ P) P
differs true true P ne says = absurd (ne refl)
differs false false P ne says = absurd (ne refl)
differs true false P ne says = λ p. false≢true (says.1 p)
differs false true P ne says = says.0 refl

module _ (default : CompiledExpr) (test : TestQuery) (Is : Text → Type 0) (over : GroupOverride) where
  passed_known : ¬ Covers default over test → (rest : List GroupOverride) (answer : Bool) → IsAnswer default rest test Is (Known answer) → IsAnswer default (over ∷ rest) test Is (Known answer)
  passed_known never rest answer is = λ group may. elim may [
    | inl taken ↦ absurd (elim taken.0 [ inl sure ↦ never sure.0 | inr unknown ↦ never unknown.0 ])
    | inr behind ↦ is group behind.1
  ]

  -- the override does not pick the test
  pub passed : ¬ Covers default over test → (seen : Option Seen) → StepsOn default test Is over seen (Open seen)
  passed never None rest (Known answer) is = passed_known never rest answer is
  passed never None rest (Unknown path) (hangs, picked, missed) = (
    inr (λ unknown. never unknown.0, hangs),
    (picked.0, inr (λ sure. never sure.0, picked.1), picked.2),
    (missed.0, inr (λ sure. never sure.0, missed.1), missed.2),
  )
  passed never (Some seen) rest (Known answer) (same, is) = (same, passed_known never rest answer is)
  passed never (Some seen) rest (Unknown path) (same, (group, may, other)) = (same, (group, inr (λ sure. never sure.0, may), other))

  module _ (value : Bool) (says : IsTrue value ↔ Is over.group.now) where
    here : (group : Text) → group ≡ over.group.now → IsTrue value ↔ Is group
    here group e = subst (λ g. IsTrue value ↔ Is g) (sym e) says

    -- it surely applies
    ends_at : Applies default test over (Some true) → (rest : List GroupOverride) → IsAnswer default (over ∷ rest) test Is (Known value)
    ends_at sure rest = λ group may. elim may [
      | inl taken ↦ here group taken.1
      | inr behind ↦ absurd (behind.0 sure)
    ]

    known_of : (seen : Option Seen) (answer : Bool) → Joins seen value (Known answer) → (answer ≡ value) × ((s : Seen) → seen ≡ Some s → s.answer ≡ value)
    known_of None answer is = (let e : Known answer ≡ Known value = is in cc, λ s none. let e : None ≡ Some s = none in cc)
    known_of (Some seen) answer is = elim (either_way seen.answer value) [
      | inl same ↦ (let e : Known answer ≡ Known value = is.0 same in cc, λ s some. let e : Some seen ≡ Some s = some in cc)
      | inr apart ↦ absurd (let e : Known answer ≡ Unknown seen.path = is.1 apart in cc)
    ]

    -- then the answer is known
    pub decided : Applies default test over (Some true) → (seen : Option Seen) (answer : Bool) → Joins seen value (Known answer) → StepsOn default test Is over seen (Decided (Known answer))
    decided sure None answer is rest = rw (known_of None answer is).0 (ends_at sure rest)
    decided sure (Some seen) answer is rest =
        let known = known_of (Some seen) answer is in
        (known.0 ∙ sym (known.1 seen refl), rw known.0 (ends_at sure rest))

    -- it makes the answer unknown
    pub parted : Covers default over test → applies over test.binary_query.platform ≡ Some true ⊎ applies over test.binary_query.platform ≡ None
        → (seen : Option Seen) (path : _) → Joins seen value (Unknown path) → StepsOn default test Is over seen (Decided (Unknown path))
    parted covers may None path is rest = absurd (let e : Unknown path ≡ Known value = is in cc)
    parted covers may (Some seen) path is rest = elim (either_way seen.answer value) [
      | inl same ↦ absurd (let e : Unknown path ≡ Known value = is.0 same in cc)
      | inr apart ↦
          let e : Unknown path ≡ Unknown seen.path = is.1 apart in
          let at : path ≡ seen.path = cc in
          (at, (over.group.now, inl (elim may [ inl sure ↦ inl (covers, sure) | inr unknown ↦ inr (covers, unknown) ], refl), differs seen.answer value (Is over.group.now) apart says))
    ]

    module _ (unknown : Applies default test over None) where
      not_sure : ¬ Applies default test over (Some true)
      not_sure sure = let e : None ≡ Some true = sym unknown.1 ∙ sure.1 in cc

      either_group : (seen : Bool) → seen ≡ value → (rest : List GroupOverride) → IsAnswer default rest test Is (Known seen) → IsAnswer default (over ∷ rest) test Is (Known seen)
      either_group seen same rest is = λ group may. elim may [
        | inl taken ↦ rw same (here group taken.1)
        | inr behind ↦ is group behind.1
      ]

      two_groups : (seen : Bool) → seen ≡ value → (rest : List GroupOverride) (group : Text) → MayBeIn default rest test group → MatchBool seen (¬ Is group) (Is group)
          → ((g : Text) × MayBeIn default (over ∷ rest) test g × Is g) × ((g : Text) × MayBeIn default (over ∷ rest) test g × ¬ Is g)
      two_groups true same rest group may other =
          ((over.group.now, inl (inr unknown, refl), says.0 (sym same)), (group, inr (not_sure, may), other))
      two_groups false same rest group may other =
          ((group, inr (not_sure, may), other), (over.group.now, inl (inr unknown, refl), λ is. false≢true (same ∙ says.1 is)))

      -- it may apply, so the walk goes on
      pub opened : (seen : Option Seen) (answer : Bool) → Joins seen value (Known answer)
          → StepsOn default test Is over seen (Open (Some (unwrap_or seen (record { answer = answer; path = over.path }))))
      opened None answer is rest (Known last) (same, behind) =
          either_group last (same ∙ (known_of None answer is).0) rest behind
      opened None answer is rest (Unknown path) (same, (group, may, other)) =
          let both = two_groups answer (known_of None answer is).0 rest group may other in
          (inl (unknown, ap (λ p. p.now) same), both.0, both.1)
      opened (Some seen) answer is rest (Known last) (same, behind) =
          (same, either_group last (same ∙ (known_of (Some seen) answer is).1 seen refl) rest behind)
      opened (Some seen) answer is rest (Unknown path) (same, (group, may, other)) =
          (same, (group, inr (not_sure, may), other))

-- no override is left
pub finished : (default : CompiledExpr) (test : TestQuery) (Is : Text → Type 0) (value : Bool) → (IsTrue value ↔ Is (codes "@global")) → (seen : Option Seen) (answer : TestAnswer) → Joins seen value answer → Finishes default test Is seen [] answer
finished default test Is value says None answer is =
    subst (IsAnswer default [] test Is) (sym is) (λ group e. subst (λ g. IsTrue value ↔ Is g) (sym e) says)
finished default test Is value says (Some seen) answer is = elim (either_way seen.answer value) [
  | inl same ↦ subst (Finishes default test Is (Some seen) []) (sym (is.0 same)) (sym same, λ group e. subst (λ g. IsTrue value ↔ Is g) (sym e) says)
  | inr apart ↦ subst (Finishes default test Is (Some seen) []) (sym (is.1 apart)) (refl, (codes "@global", refl, differs seen.answer value (Is (codes "@global")) apart says))
]

-- the platforms of a row apply, or that is unknown
pub may_of : (is_sure : Bool) (answer : Option Bool) → answer ≡ cond is_sure (Some true) None → (answer ≡ Some true) ⊎ (answer ≡ None)
may_of true answer is = inl is
may_of false answer is = inr is

-- what the walk over the rows from one on answers, by its step over that row
pub from_row : (default : CompiledExpr) (test : TestQuery) (Is : Text → Type 0) (seen : Option Seen) (rows : List ToldOverride) (i : ℕ) (row : ToldOverride) (answer : TestAnswer) → i < length rows → get_or rows i row ≡ row
    → Finishes default test Is seen (given_of row ∷ map given_of (drop (i + 1) rows)) answer → Finishes default test Is seen (map given_of (drop i rows)) answer
from_row default test Is seen rows i row answer lt at finishes =
    let left : drop i rows ≡ row ∷ drop (i + 1) rows = rw (drop-cons rows i row, at, add-one i) refl in
    subst (λ os. Finishes default test Is seen os answer) (sym (ap (map given_of) left)) finishes

pub row_at : (default : CompiledExpr) (binary : BinaryQuery) (rows : List ToldOverride) (i : ℕ) (row : ToldOverride) → i < length rows → get_or rows i row ≡ row → All (MayApply default binary) rows → MayApply default binary row
row_at default binary rows i row lt at may = subst (MayApply default binary) at (may i row lt)
