use Rattle.std.proofs.Common.{◌≡◌, Option, Some, None, ap, ◌∙◌, sym}
use Rattle.filterset_language.specs.Parsing.Position.{position_of}
use Rattle.filterset_language.proofs.{Recovering.reported, Recovering.option_none, FaultsStand.or_found}
use Rattle.filterset_grammar.specs.declared.operators.OrOperator.{OrOperator}
use Rattle.filterset_language.proofs.parsing.expressions.check_or.Goals as goal

pub returns-clause-stand : goal.returns-clause-stand
returns-clause-stand c =
    let none : c.args.operator ≡ None = option_none c.args.operator (sym c.is_some.ensures ∙ c.if-is_some.false) in
    reported _ _ _ _ c.in_ok-push.ensures.items (rw c.up_to.ensures (or_found c.args.start c.args.rest (ap (λ (o : Option OrOperator). Some (o, position_of c.args.rest)) (sym none) ∙ c.requires.stands)))
