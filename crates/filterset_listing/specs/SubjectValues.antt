-- What a tree says of subjects: tests in groups, and binaries whose tests are unknown.
use Rattle.std.specs.Prelude.{Bool, true, false, List, Option, Some, None, IsTrue}
use Rattle.std.specs.List.{AllZip}
use Rattle.filterset_expression.specs.declared.expression.CompiledExpr.{CompiledExpr}
use Rattle.filterset_faults.specs.declared.span.SourceSpan.{SourceSpan}
use Rattle.filterset_grammar.specs.Tree.{Tree}
use Rattle.filterset_graph.specs.declared.package.PackageMetadata.{PackageMetadata}
use Rattle.filterset_listing.specs.{Values.HasValueIn, declared.subjects.Subject.Subject}

-- what the trees of one filterset are evaluated by
pub record Basis : Type 0 where
  pub packages : List PackageMetadata
  pub default : CompiledExpr

-- the tree has the value; none is unknown
abbrev pub HasValue : Basis → Subject → Tree SourceSpan → Option Bool → Type 0
HasValue basis subject e value = HasValueIn subject.group.now subject.candidate basis.packages basis.default e value

-- the values are those of the tree, one for each subject
abbrev pub HasColumn : Basis → List Subject → Tree SourceSpan → List (Option Bool) → Type 0
HasColumn basis subjects e values = AllZip (λ subject value. HasValue basis subject e value) subjects values

-- whether a value may turn out to be this one
abbrev pub may_be : Option Bool → Bool → Bool
may_be None other = true
may_be (Some true) other = other
may_be (Some false) true = false
may_be (Some false) false = true

-- The tree may say so of the subject. Of a test it says one thing. Of a binary whose tests are unknown it may say both,
-- if that depends on the answers of its `test` and `group` predicates, each on its own.
abbrev pub MaySay : Basis → Subject → Tree SourceSpan → Bool → Type 0
MaySay basis subject e value = (has : Option Bool) × HasValue basis subject e has × IsTrue (may_be has value)
