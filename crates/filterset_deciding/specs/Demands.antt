-- What the values of leaves demand of a text of a test.
use Rattle.std.specs.Prelude.{◌≡◌, List, Contains, Option, Some, None}
use Rattle.std.specs.List.{AllByRecursion}
use Rattle.filterset_expression.specs.Expression as leaf
use Rattle.filterset_expression.specs.Expression.{CompiledLeaf, leaf_matcher}
use Rattle.filterset_expression.specs.FlatSteps.{Step, Push, step_of}
use Rattle.filterset_matchers.specs.Matchers.{matcher_of}
use Rattle.filterset_deciding.specs.{Texts.AreComparisons, declared.demand.Demand.Demand, declared.demand.Doubt.Doubt}
use Rattle.filterset_deciding.specs.declared.{demand.TestField.TestField, running.ValuedStep.ValuedStep}
use Rattle.filterset_deciding.specs.declared.demand.TestField.TheVariants as fields

-- the text of a test that the leaf's matcher is put to, if the leaf has one
abbrev pub field_of : CompiledLeaf → Option TestField
field_of (leaf.Kind matcher span) = Some fields.Kind
field_of (leaf.Binary matcher span) = Some fields.BinaryName
field_of (leaf.BinaryId matcher span) = Some fields.BinaryId
field_of (leaf.Test matcher span) = Some fields.TestName
field_of (leaf.Group matcher span) = Some fields.Group
field_of _ = None

-- the leaf puts the demand's matcher to this text of a test
pub record IsOfLeaf (asked : TestField) (demand : Demand) (leaf : CompiledLeaf) : Type 0 where
  pub field : field_of leaf ≡ Some asked
  pub matcher : leaf_matcher leaf ≡ Some (matcher_of demand.matcher.now)

-- all demands are of leaves that these are all of
abbrev pub IsDoubtAbout : List CompiledLeaf → Doubt → Type 0
IsDoubtAbout leaves doubt =
    AllByRecursion (λ demand. (leaf : CompiledLeaf) × Contains leaves leaf × IsOfLeaf doubt.field demand leaf) doubt.demands.items

-- some demands of leaves that these are all of do not only compare texts
abbrev pub HasUncompared : List CompiledLeaf → Type 0
HasUncompared leaves = (doubt : Doubt) × IsDoubtAbout leaves doubt × (¬ AreComparisons doubt.demands.items)

-- ---- what only contracts of private functions cite

-- all demands are of leaves of these steps
abbrev pub IsDoubtIn : List (Step CompiledLeaf) → Doubt → Type 0
IsDoubtIn steps doubt =
    AllByRecursion (λ demand. (leaf : CompiledLeaf) × Contains steps (Push leaf) × IsOfLeaf doubt.field demand leaf) doubt.demands.items

-- the demand is what the value of the step's leaf demands of this text of a test
pub record IsDemandedBy (field : TestField) (placed : ValuedStep) (demand : Demand) : Type 0 where
  pub leaf : CompiledLeaf
  pub step : step_of placed.step ≡ Push leaf
  pub of_leaf : IsOfLeaf field demand leaf
  pub value : placed.value ≡ Some demand.is_matched
