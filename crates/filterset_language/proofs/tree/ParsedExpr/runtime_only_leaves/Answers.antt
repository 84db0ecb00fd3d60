use Rattle.std.proofs.Common.{rules}
use Rattle.filterset_grammar.specs.Tree.{is_runtime_only}
use Rattle.filterset_language.proofs.tree.ParsedExpr.runtime_only_leaves.Goals as goal

pub returns : goal.returns
returns g c = c.leaves_where.ensures is_runtime_only (search rules)
