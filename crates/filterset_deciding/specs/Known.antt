-- What is known about leaves and matchers.
use Rattle.std.specs.Prelude.{◌≡◌, ◌↔◌, ℕ, Bool, List, IsTrue, IsUtf8, Option, Some, None, map}
use Rattle.std.specs.List.{AllByRecursion}
use Rattle.filterset_expression.specs.{Expression.CompiledLeaf, FlatSteps.Step, FlatSteps.Push, FlatSteps.step_of}
use Rattle.filterset_matchers.specs.Matcher.{Matcher, MatchesName}
use Rattle.filterset_deciding.specs.{AnyTest.AnyTest, AnyTest.Says, declared.running.ValuedStep.ValuedStep}

-- if there is a value, it is whether the proposition holds
abbrev pub IsKnown : Option Bool → Type 0 → Type 0
IsKnown None P = Unit {0}
IsKnown (Some value) P = IsTrue value ↔ P

-- if this is whether the first matcher matches a text, then that is whether the second matches it, if it is known
abbrev pub IsKnownOfText : Matcher → Bool → Matcher → Option Bool → Type 0
IsKnownOfText matcher value other inferred = (text : List ℕ) → IsUtf8 text → (IsTrue value ↔ MatchesName matcher text) → IsKnown inferred (MatchesName other text)

-- the matcher matches this text alone
abbrev pub IsLiteralOf : Matcher → List ℕ → Type 0
IsLiteralOf matcher literal = (text : List ℕ) → IsUtf8 text → MatchesName matcher text ↔ (text ≡ literal)

-- the value of the step, if it is a known one of a leaf, is what the leaf says of the test
abbrev pub IsKnownStep : AnyTest → Step CompiledLeaf → Option Bool → Type 0
IsKnownStep test (Push leaf) value = IsKnown value (Says test leaf)
IsKnownStep test _ value = Unit {0}

-- all known values of the branch are what the leaves say of the test
abbrev pub Agrees : AnyTest → List ValuedStep → Type 0
Agrees test placed = AllByRecursion (λ p. IsKnownStep test (step_of p.step) p.value) placed

-- the steps, without their values
abbrev pub steps_in : List ValuedStep → List (Step CompiledLeaf)
steps_in placed = map (λ p. step_of p.step) placed
