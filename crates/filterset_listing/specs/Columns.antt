-- The values of a tree's nodes for each subject, as they are kept. Only contracts of private functions cite this.
use Rattle.std.specs.Prelude.{◌≡◌, Bool, List, Option, map, zip}
use Rattle.filterset_expression.specs.{Connectives.kleene, Meaning.IsCompiled, declared.logic.Connective.Connective}
use Rattle.filterset_faults.specs.declared.span.SourceSpan.{SourceSpan}
use Rattle.filterset_grammar.specs.Tree.{Tree, Not, Union, Join, Parens, Set}
use Rattle.filterset_graph.specs.declared.package.PackageMetadata.{PackageMetadata}
use Rattle.filterset_listing.specs.{SubjectValues.Basis, SubjectValues.HasColumn, declared.columns.Columns.Columns}
use Rattle.filterset_listing.specs.declared.columns.Columns.TheVariants.{Leaf, One', Two'}
use Rattle.filterset_listing.specs.declared.subjects.Subject.{Subject}

abbrev pub values_of : Columns → List (Option Bool)
values_of (Leaf values compiled) = values.items
values_of (One' values p operand) = values.items
values_of (Two' values p left q right) = values.items

abbrev pub first_of : Columns → Columns
first_of (Leaf values compiled) = Leaf values compiled
first_of (One' values p operand) = operand
first_of (Two' values p left q right) = left

abbrev pub second_of : Columns → Columns
second_of (Leaf values compiled) = Leaf values compiled
second_of (One' values p operand) = One' values p operand
second_of (Two' values p left q right) = right

-- the columns are of an operator that connects these operands
abbrev pub IsConnected : Connective → Columns → Columns → Columns → Type 0
IsConnected connective left right columns =
    (values_of columns ≡ map (λ p. kleene connective p.0 p.1) (zip (values_of left) (values_of right)))
    × (first_of columns ≡ left) × (second_of columns ≡ right)

-- what the tree is compiled to is kept
abbrev pub Keeps : List PackageMetadata → Tree SourceSpan → Columns → Type 0
Keeps packages e (Leaf values compiled) = IsCompiled packages e compiled.now
Keeps packages e _ = ⊥

-- the values are those of the tree, and so are those of each operand
abbrev pub Fits : Basis → List Subject → Tree SourceSpan → Columns → Type 0
Fits basis subjects (Not op e) columns =
    HasColumn basis subjects (Not op e) (values_of columns) × Fits basis subjects e (first_of columns)
Fits basis subjects (Union op l r) columns = HasColumn basis subjects (Union op l r) (values_of columns)
    × Fits basis subjects l (first_of columns) × Fits basis subjects r (second_of columns)
Fits basis subjects (Join op l r) columns = HasColumn basis subjects (Join op l r) (values_of columns)
    × Fits basis subjects l (first_of columns) × Fits basis subjects r (second_of columns)
Fits basis subjects (Parens e) columns = Fits basis subjects e columns
Fits basis subjects (Set leaf) columns =
    HasColumn basis subjects (Set leaf) (values_of columns) × Keeps basis.packages (Set leaf) columns
