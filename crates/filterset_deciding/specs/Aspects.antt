-- What a branch says of one aspect of a test: of a text, of the package, of the platform, and of leaves that say the same
-- of all tests.
use Rattle.std.specs.Prelude.{◌≡◌, ℕ, Bool, true, false, List, Option, Some}
use Rattle.std.specs.List.{AllByRecursion}
use Rattle.filterset_expression.specs.Expression as leaf
use Rattle.filterset_expression.specs.{Expression.CompiledLeaf, FlatSteps.Step, FlatSteps.Push, FlatSteps.step_of}
use Rattle.filterset_deciding.specs.{AnyTest.AnyTest, AnyTest.Says, Demands.field_of, Known.IsKnown}
use Rattle.filterset_deciding.specs.declared.{demand.TestField.TestField, running.ValuedStep.ValuedStep}
use Rattle.filterset_deciding.specs.declared.demand.TestField.TheVariants as fields

-- a text of the test
abbrev pub text_of : TestField → AnyTest → List ℕ
text_of fields.Kind test = test.query.binary_query.kind.now
text_of fields.BinaryName test = test.query.binary_query.binary_name.now
text_of fields.BinaryId test = test.query.binary_query.binary_id.now
text_of fields.TestName test = test.query.test_name.now
text_of fields.Group test = test.group

-- the leaf's matcher is put to the text
abbrev pub IsOfField : TestField → CompiledLeaf → Type 0
IsOfField field leaf = field_of leaf ≡ Some field

abbrev pub is_of_package : CompiledLeaf → Bool
is_of_package (leaf.Packages ids) = true
is_of_package _ = false

abbrev pub is_of_platform : CompiledLeaf → Bool
is_of_platform (leaf.Platform platform span) = true
is_of_platform _ = false

-- whether the leaf says the same of all tests
abbrev pub is_constant : CompiledLeaf → Bool
is_constant leaf.Default = true
is_constant leaf.All = true
is_constant leaf.None = true
is_constant _ = false

-- if the leaf is of the aspect, the value is what the leaf says of the test, if there is a value
abbrev pub IsKnownOn : (CompiledLeaf → Type 0) → AnyTest → Step CompiledLeaf → Option Bool → Type 0
IsKnownOn On test (Push leaf) value = On leaf → IsKnown value (Says test leaf)
IsKnownOn On test _ value = Unit {0}

-- all known values of leaves of the aspect are what these say of the test
abbrev pub AgreesOn : (CompiledLeaf → Type 0) → AnyTest → List ValuedStep → Type 0
AgreesOn On test placed = AllByRecursion (λ p. IsKnownOn On test (step_of p.step) p.value) placed
