use Rattle.std.proofs.{Common.◌∙◌, Common.sym, lemmas.Bool.false≢true}
use Rattle.filterset_deciding.proofs.texts.take_if_met.Goals as goal

pub returns-then-not-branch : goal.returns-then-not-branch
returns-then-not-branch c = λ any utf8 met.
    let own = rw c.as_str.ensures.value at c.in_ok-meets.ensures in
    false≢true (sym c.if-not-branch.true ∙ own.1 (c.requires any utf8 met))

pub returns : goal.returns
returns c = (rw c.as_str.ensures.value at c.in_ok-meets.ensures).0 c.if-not-branch.false
