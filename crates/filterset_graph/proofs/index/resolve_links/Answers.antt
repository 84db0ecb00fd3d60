use Rattle.std.proofs.Common.{arith}
use Rattle.filterset_graph.proofs.{Rows.AreRows-push, Refused.handed_on, Refused.IsTrueOfLinks-from_row}
use Rattle.filterset_graph.proofs.index.resolve_links.Goals as goal

pub returns-in_err-resolve_row-clause-refused : goal.returns-in_err-resolve_row-clause-refused
returns-in_err-resolve_row-clause-refused c = grind (arith, handed_on, IsTrueOfLinks-from_row)

pub loop-at-preserved : goal.loop-at-preserved
loop-at-preserved c = grind (arith, AreRows-push)
