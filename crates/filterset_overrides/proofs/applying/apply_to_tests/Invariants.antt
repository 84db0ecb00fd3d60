use Rattle.std.proofs.Common.{List, take}
use Rattle.std.specs.List.{AllZip}
use Rattle.filterset_graph.specs.declared.package.PackageMetadata.{PackageMetadata}
use Rattle.filterset_expression.specs.Contexts.{default_of}
use Rattle.filterset_overrides.specs.Applying.{AppliesAs, IsCompiledOf, tests_of}
use Rattle.filterset_overrides.proofs.applying.apply_to_tests.Given as goal

-- the tests of the binaries so far were added
abbrev pub invariant-loop-binary : goal.invariant-loop-binary
invariant-loop-binary l = (packages : List PackageMetadata) → IsCompiledOf packages l.asked
    → AllZip (λ test. AppliesAs packages (default_of l.fn.context) test l.asked) (tests_of (take l.binary-index l.binaries)) l.applications.items
