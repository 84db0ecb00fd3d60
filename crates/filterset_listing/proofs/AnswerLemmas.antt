-- Two answers about the tests of a binary that have one name have one value.
use Rattle.std.proofs.Common.{◌≡◌, List, [], ◌∷◌, true, false, refl, inl, inr}
use Rattle.std.specs.Prelude.{codes}
use Rattle.std.proofs.lemmas.Bool.{false≢true}
use Rattle.filterset_expression.specs.declared.expression.CompiledExpr.{CompiledExpr}
use Rattle.filterset_expression.specs.declared.query.{BinaryQuery.BinaryQuery, TestQuery.TestQuery}
use Rattle.filterset_listing.specs.{Asking.Text, Groups.IsAnswer, Groups.MayBeIn, Groups.Says, Groups.known_of}
use Rattle.filterset_listing.specs.declared.groups.{GroupOverride.GroupOverride, TestAnswer.TestAnswer}
use Rattle.filterset_listing.specs.declared.groups.TestAnswer.TheVariants.{Known, Unknown}

module _ (default : CompiledExpr) where
  -- a test is in some group
  some_group : (overrides : List GroupOverride) (test : TestQuery) → ¬ ¬ ((group : Text) × MayBeIn default overrides test group)
  some_group [] test none = none (codes "@global", refl)
  some_group (over ∷ overrides) test none = some_group overrides test
      (λ some. none (some.0, inr ((λ surely. none (over.group.now, inl (inl surely, refl))), some.1)))

  module _ (overrides : List GroupOverride) where
    -- so two answers about it have one value
    one_value : (test : TestQuery) (Is : Text → Type 0) (x y : TestAnswer) → IsAnswer default overrides test Is x → IsAnswer default overrides test Is y → known_of x ≡ known_of y
    one_value test Is (Known true) (Known true) is is' = refl
    one_value test Is (Known false) (Known false) is is' = refl
    one_value test Is (Known true) (Known false) is is' =
        absurd (some_group overrides test (λ some. false≢true ((is' some.0 some.1).1 ((is some.0 some.1).0 refl))))
    one_value test Is (Known false) (Known true) is is' =
        absurd (some_group overrides test (λ some. false≢true ((is some.0 some.1).1 ((is' some.0 some.1).0 refl))))
    one_value test Is (Known x) (Unknown path) is (hangs, one, other) = absurd (other.2 ((is other.0 other.1).0 ((is one.0 one.1).1 one.2)))
    one_value test Is (Unknown path) (Known y) (hangs, one, other) is = absurd (other.2 ((is other.0 other.1).0 ((is one.0 one.1).1 one.2)))
    one_value test Is (Unknown path) (Unknown path') is is' = refl

    -- two answers about the tests of a binary that have a name have one value
    pub one_answer : (Picks : TestQuery → Text → Type 0) (binary : BinaryQuery) (name : Text) (x y : TestAnswer)
        → Says default overrides Picks binary name x → Says default overrides Picks binary name y → known_of x ≡ known_of y
    one_answer Picks binary name x y is is' =
        let test : TestQuery = record { binary_query = binary; test_name = record { ref_ptr = (0, 0); now = name } } in
        one_value test (Picks test) x y (is test refl refl) (is' test refl refl)
