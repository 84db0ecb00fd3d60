use Rattle.filterset_graph.proofs.Rows.{repeated_at, placed_more}
use Rattle.std.proofs.Common.{sym, ◌∙◌}
use Rattle.filterset_graph.proofs.index.positions_of.Goals as goal

pub returns-then-is_some-clause-refused : goal.returns-then-is_some-clause-refused
returns-then-is_some-clause-refused c =
    repeated_at c.args.packages.now c.loop-at.at c.index-packages-at.result c.in_ok-try_clone.field-0 c.loop-at.positions c.in_ok-earlier.earlier c.loop-at-test.true c.index-packages-at.is c.in_ok-try_clone.ensures c.loop-at.invariant c.in_ok-earlier.ensures.old (sym c.is_some.ensures ∙ c.if-is_some.true)

pub loop-at-preserved : goal.loop-at-preserved
loop-at-preserved c =
    placed_more c.args.packages.now c.loop-at.at c.index-packages-at.result c.in_ok-try_clone.field-0 c.loop-at.positions c.insert.new.self c.in_ok-earlier.earlier c.loop-at-test.true c.index-packages-at.is c.in_ok-try_clone.ensures c.loop-at.invariant c.in_ok-earlier.ensures.old (sym c.is_some.ensures ∙ c.if-is_some.false) c.in_ok-earlier.ensures.updates.0
