-- Filtersets that answer alike have the same picks.
use Rattle.std.proofs.Common.{◌≡◌, ◌↔◌, Bool, true, false, List, [], ◌∷◌}
use Rattle.std.specs.{Prelude.MatchBool, List.AllZip}
use Rattle.filterset_expression.specs.declared.expression.CompiledExpr.{CompiledExpr}
use Rattle.filterset_expression.specs.declared.query.{BinaryQuery.BinaryQuery, TestQuery.TestQuery}
use Rattle.filterset_listing.specs.{Asking.Text, Groups.IsAnswer, Groups.Says}
use Rattle.filterset_listing.specs.Listing.{IsBinaryPicks, Picked, no_tests, one_passed, one_picked, one_unknown, tests_of, unknown_of}
use Rattle.filterset_listing.specs.declared.{binary.AskedBinary.AskedBinary, groups.GroupOverride.GroupOverride}
use Rattle.filterset_listing.specs.declared.groups.TestAnswer.{TestAnswer, TheVariants.Known, TheVariants.Unknown}
use Rattle.filterset_listing.specs.declared.listing.BinaryPicks.{BinaryPicks}

-- what holds of each pair, and gives something else of it, gives that of each
pub AllZip-weaker : {A B : Type 0} (R S : A → B → Type 0) → ((x : A) (y : B) → R x y → S x y) → (xs : List A) (ys : List B) → AllZip R xs ys → AllZip S xs ys
AllZip-weaker R S gives [] [] all = tt
AllZip-weaker R S gives [] (y ∷ ys) all = absurd all
AllZip-weaker R S gives (x ∷ xs) [] all = absurd all
AllZip-weaker R S gives (x ∷ xs) (y ∷ ys) all = (gives x y all.0, AllZip-weaker R S gives xs ys all.1)

-- an answer is that of what is so alike in each group
pub answer_of_alike : (default : CompiledExpr) (overrides : List GroupOverride) (test : TestQuery) (One Other : Text → Type 0) → ((group : Text) → One group ↔ Other group) → (answer : TestAnswer)
    → IsAnswer default overrides test One answer → IsAnswer default overrides test Other answer
answer_of_alike default overrides test One Other same (Known answer) is = λ group may.
    let says = is group may in (λ yes. (same group).0 (says.0 yes), λ other. says.1 ((same group).1 other))
answer_of_alike default overrides test One Other same (Unknown path) (hangs, picked, missed) =
    (hangs, (picked.0, picked.1, (same picked.0).0 picked.2), (missed.0, missed.1, λ other. missed.2 ((same missed.0).1 other)))

module _ (default : CompiledExpr) (overrides : List GroupOverride) (One Other : TestQuery → Text → Type 0) (same : (test : TestQuery) (group : Text) → One test group ↔ Other test group) where
  -- filtersets that pick the same tests in each group answer alike
  pub says_alike : (binary : BinaryQuery) (name : Text) (answer : TestAnswer) → Says default overrides One binary name answer → Says default overrides Other binary name answer
  says_alike binary name answer says = λ test of_binary of_name.
      answer_of_alike default overrides test (One test) (Other test) (same test) answer (says test of_binary of_name)

module _ (One Other : Text → TestAnswer → Type 0) (gives : (test : Text) (answer : TestAnswer) → One test answer → Other test answer) where
  picked_alike : (tests picked : List Text) (unknown : List (Text × Text)) → Picked One tests picked unknown → Picked Other tests picked unknown
  picked_alike _ _ _ no_tests = no_tests
  picked_alike _ _ _ (one_picked {test} {tests} {picked} {unknown} says are) = one_picked (gives test (Known true) says) (picked_alike tests picked unknown are)
  picked_alike _ _ _ (one_passed {test} {tests} {picked} {unknown} says are) = one_passed (gives test (Known false) says) (picked_alike tests picked unknown are)
  picked_alike _ _ _ (one_unknown {test} {path} {tests} {picked} {unknown} says are) = one_unknown (gives test (Unknown path) says) (picked_alike tests picked unknown are)

module _ (One Other : BinaryQuery → Text → TestAnswer → Type 0) (CanOne CanOther : BinaryQuery → Type 0) (gives : (binary : BinaryQuery) (test : Text) (answer : TestAnswer) → One binary test answer → Other binary test answer) (same_can : (binary : BinaryQuery) → CanOne binary ↔ CanOther binary) where
  asked_alike : (is_left_out : Bool) (binary : AskedBinary) (tests : List Text) (unknown : List (Text × Text))
      → MatchBool is_left_out ((tests ≡ []) × (unknown ≡ []) × ¬ CanOne binary.query × ((name : Text) → One binary.query name (Known false)))
      (CanOne binary.query × Picked (One binary.query) binary.tests.now tests unknown)
      → MatchBool is_left_out ((tests ≡ []) × (unknown ≡ []) × ¬ CanOther binary.query × ((name : Text) → Other binary.query name (Known false)))
      (CanOther binary.query × Picked (Other binary.query) binary.tests.now tests unknown)
  asked_alike true binary tests unknown (none, no_unknown, cannot, never) =
      (none, no_unknown, λ can. cannot ((same_can binary.query).1 can), λ name. gives binary.query name (Known false) (never name))
  asked_alike false binary tests unknown (can, are) =
      ((same_can binary.query).0 can, picked_alike (One binary.query) (Other binary.query) (gives binary.query) binary.tests.now tests unknown are)

  -- filtersets that answer alike have the same picks
  pub all_answers_alike : (binaries : List AskedBinary) (all : List BinaryPicks) → AllZip (IsBinaryPicks One CanOne) binaries all → AllZip (IsBinaryPicks Other CanOther) binaries all
  all_answers_alike = AllZip-weaker (IsBinaryPicks One CanOne) (IsBinaryPicks Other CanOther)
      (λ binary picks is. (is.0, asked_alike picks.is_left_out binary (tests_of picks) (unknown_of picks) is.1))

-- so have those that pick the same tests in each group
pub all_picks_alike : (default : CompiledExpr) (overrides : List GroupOverride) (One Other : TestQuery → Text → Type 0) (CanOne CanOther : BinaryQuery → Type 0) → ((test : TestQuery) (group : Text) → One test group ↔ Other test group)
    → ((binary : BinaryQuery) → CanOne binary ↔ CanOther binary) → (binaries : List AskedBinary) (all : List BinaryPicks)
    → AllZip (IsBinaryPicks (Says default overrides One) CanOne) binaries all → AllZip (IsBinaryPicks (Says default overrides Other) CanOther) binaries all
all_picks_alike default overrides One Other CanOne CanOther same =
    all_answers_alike (Says default overrides One) (Says default overrides Other) CanOne CanOther (says_alike default overrides One Other same)
