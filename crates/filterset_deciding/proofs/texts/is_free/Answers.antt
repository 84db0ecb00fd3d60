use Rattle.std.proofs.{Common.◌∙◌, Common.eqb, Common.refl, Common.sym, lemmas.Bool.false≢true}
use Rattle.std.proofs.lemmas.{Bool.Decides.Decides-eqb, List.Elements.Decides-contains, List.Elements.contains_decides}
use Rattle.std.specs.Prelude.{Contains}
use Rattle.filterset_deciding.proofs.Parts.{not_hit}
use Rattle.filterset_deciding.proofs.texts.is_free.Goals as goal

pub returns-then-is_matched : goal.returns-then-is_matched
returns-then-is_matched c = (λ e none. absurd (false≢true (sym none ∙ c.if-is_matched.true)), λ f. refl)

pub returns : goal.returns
returns c =
    let bytes = c.as_bytes.result.now in
    let found = Decides-contains bytes c.args.c c.contains.result (contains_decides eqb Decides-eqb bytes c.args.c c.contains.result c.contains.ensures.cases) in
    let own = not_hit c.contains.result (Contains c.args.text.now c.args.c) (rw c.as_bytes.ensures.value at found) in
    (λ e none. own.0 e, λ f. own.1 (f c.if-is_matched.false))
