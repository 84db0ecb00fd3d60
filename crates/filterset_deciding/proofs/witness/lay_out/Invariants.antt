use Rattle.std.proofs.Common.{take}
use Rattle.filterset_expression.specs.Contexts.{default_of}
use Rattle.filterset_deciding.specs.AnyTest.{AreLaid}
use Rattle.filterset_deciding.proofs.witness.lay_out.Given as goal

-- the filtersets so far are laid out
abbrev pub invariant-loop-expr : goal.invariant-loop-expr
invariant-loop-expr l = AreLaid (default_of l.cx) (take l.expr-index l.exprs) l.flats.items
