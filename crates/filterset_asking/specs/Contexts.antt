-- What filtersets are evaluated by.
use Rattle.filterset_expression.specs.Contexts.{default_of}
use Rattle.filterset_listing.specs.SubjectValues.{Basis}
use Rattle.nextest_filtering.specs.Compiling.{packages_of}
use Rattle.filterset_asking.specs.declared.texts.WarningContext.{WarningContext}

-- the packages and the default filter of a context
abbrev pub basis_of : WarningContext → Basis
basis_of cx = record { packages = packages_of cx.parse_context; default = default_of cx.eval_context }
