use Rattle.std.proofs.Common.{◌≡◌, ◌∙◌, sym, true}
use Rattle.filterset_deciding.specs.Globs.{are_literals}
use Rattle.filterset_deciding.proofs.Rules.{literal_glob}
use Rattle.filterset_deciding.proofs.literals.literal_of_glob.Goals as goal

pub returns : goal.returns
returns c = λ own implicit text utf8.
    let tokens = c.tokens.result.now in
    let same = c.tokens.ensures.tokens in
    let all : are_literals tokens ≡ true = sym c.are_literals.ensures ∙ c.if-not-are_literals.false in
    let matched = c.in_ok-is_matched.ensures.answer.0 c.if-not-is_matched.false in
    rw (← same) (literal_glob tokens own c.as_str-text.result.now implicit c.as_str-text.utf8 all (rw (← same) at matched) text utf8)
