use Rattle.std.proofs.Common.{arith, refl}
use Rattle.filterset_language.proofs.Recovering.{reported}
use Rattle.filterset_language.proofs.FaultsStand.{binary_found, unary_found, expr_found}
use Rattle.filterset_language.proofs.parsing.expressions.read_nothing.Goals as goal

pub returns-in-Some-clause-stand : goal.returns-in-Some-clause-stand
returns-in-Some-clause-stand c =
    reported _ _ _ _ c.in_ok-push.ensures.items (rw c.up_to.ensures (binary_found c.args.input c.args.start c.in-Some.end _ _ c.requires.start.text c.in-Some.ensures.value))

pub returns-in-Some-after_word-clause-stand : goal.returns-in-Some-after_word-clause-stand
returns-in-Some-after_word-clause-stand c =
    reported _ _ _ _ c.in_ok-push-2.ensures.items (rw c.up_to-in-Some-after_word.ensures (unary_found c.args.input c.args.start c.in-Some-after_word.end _ _ c.requires.start.text c.in-Some-after_word.ensures.value refl refl))

pub returns-clause-stand : goal.returns-clause-stand
returns-clause-stand c =
    let no_o = c.requires.nothing in
    reported _ _ _ _ c.in_ok-push-3.ensures.items (rw c.to_end.ensures (expr_found c.args.input _ c.requires.at no_o.skipped no_o.no_name no_o.no_not no_o.no_open))
