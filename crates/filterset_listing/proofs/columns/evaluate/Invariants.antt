use Rattle.std.proofs.Common.{List, take}
use Rattle.filterset_expression.specs.{Contexts.default_of, Meaning.IsCompiled}
use Rattle.filterset_faults.specs.declared.span.SourceSpan.{SourceSpan}
use Rattle.filterset_grammar.specs.Tree.{Tree}
use Rattle.filterset_graph.specs.declared.package.PackageMetadata.{PackageMetadata}
use Rattle.filterset_listing.specs.SubjectValues.{HasColumn}
use Rattle.filterset_listing.proofs.columns.evaluate.Given as goal

-- the subjects so far have their values
abbrev pub invariant-loop-subject : goal.invariant-loop-subject
invariant-loop-subject l =
    (packages : List PackageMetadata) (e : Tree SourceSpan) → IsCompiled packages e l.compiled
    → HasColumn (record { packages = packages; default = default_of l.asked.context }) (take l.subject-index l.asked.subjects.now) e l.values.items
