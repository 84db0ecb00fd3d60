use Rattle.std.proofs.{Common.◌≡◌, Common.refl, Common.sym, Common.◌∙◌, lemmas.Bool.false≢true}
use Rattle.filterset_texts.specs.declared.letters.Letter.{Letter}
use Rattle.filterset_texts.proofs.Lists.{any_at, none_of}
use Rattle.filterset_texts.proofs.letters.has_marks.Goals as goal

pub returns-then-are_same : goal.returns-then-are_same
returns-then-are_same c = (
  λ h. any_at (λ (letter : Letter). letter.marks.items ≡ c.args.marks.now) c.args.letters.now c.loop-letter.letter-index
      c.letter-item.result c.loop-letter-test.true c.letter-item.is (sym c.deref.ensures.value ∙ c.if-are_same.ensures.0 refl),
  λ h. refl,
)

pub returns : goal.returns
returns c = (
  λ h. absurd (false≢true h),
  λ any. absurd (none_of (λ (letter : Letter). letter.marks.items ≡ c.args.marks.now) c.args.letters.now c.loop-letter.letter-index c.loop-letter-test.false c.loop-letter.invariant any),
)
