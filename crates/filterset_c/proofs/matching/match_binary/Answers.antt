use Rattle.std.proofs.Common.{◌≡◌, ◌↔◌, Bool, Some, subst}
use Rattle.filterset_expression.specs.{BinaryMeaning.IsDefiniteTree, declared.expression.CompiledExpr.CompiledExpr}
use Rattle.filterset_language.specs.Views.{tree_of}
use Rattle.filterset_c.proofs.matching.match_binary.Goals as goal

pub returns-clause-answer : goal.returns-clause-answer
returns-clause-answer c packages compiled =
    let e = tree_of c.args.bound.now.filterset.parsed in
    let query = c.query.result in (
      query,
      c.query.ensures c.args.binary.now c.in_ok-known.ensures.known,
      subst (λ (default : CompiledExpr). (b : Bool) → (c.in_ok-answer.answer ≡ Some b) ↔ IsDefiniteTree e packages query default b)
          c.eval_context.ensures (c.in_ok-answer.ensures.meaning packages compiled),
    )
