use Rattle.std.proofs.{Common.sym, Common.◌∙◌, Common.refl, Output.has_written_of_eq, Output.has_written_append}
use Rattle.filterset_matchers.proofs.Chars.{implicit_text}
use Rattle.filterset_matchers.proofs.printing.write_signed.Goals as goal

pub returns : goal.returns
returns g c = λ plain ok.
    let text = sym c.chars-rest.ensures.rest ∙ c.in-Some.ensures.steps.0 in
    let first = c.in_ok-fmt.ensures.writes plain refl in
    let second = c.write_value-2.ensures first.plain ok in
    has_written_of_eq _ _ _ _ _ (implicit_text _ _ _ c.in-Some.c c.args.implicit c.args.sign.now c.utf8.value text c.as_str.ensures c.if-not-implicit.false) (has_written_append _ _ _ _ _ _ first second)
