-- The contexts of evaluations.
use Rattle.filterset_expression.specs.declared.{expression.CompiledExpr.CompiledExpr, context.EvalContext.EvalContext}

-- the default filter
abbrev pub default_of : EvalContext → CompiledExpr
default_of cx = cx.default_filter.now
