use Rattle.std.proofs.Common.{sym, subst}
use Rattle.filterset_deciding.specs.{Aspects.IsOfField, Aspects.text_of, Texts.Meets}
use Rattle.filterset_deciding.proofs.Agreeing.{agrees_on, text_is_utf8}
use Rattle.filterset_deciding.proofs.candidate.make_text.Goals as goal

pub returns-in-Text-clause-text : goal.returns-in-Text-clause-text
returns-in-Text-clause-text c = λ test same.
    let demands = c.in_ok-doubt.doubt.demands.items in
    let met = rw (c.as_slice.ensures.value, c.in-Text.is) at c.in_ok-text.ensures in
    (c.in_ok-doubt.ensures.meets test).0 (subst (λ z. Meets z demands) (sym same) met)

pub returns-in-Nothing-clause-fault : goal.returns-in-Nothing-clause-fault
returns-in-Nothing-clause-fault c = λ test agrees.
    let field = c.args.field in
    let none = rw (c.as_slice.ensures.value, c.in-Nothing.is) at c.in_ok-text.ensures in
    none (text_of field test) (text_is_utf8 field test) ((c.in_ok-doubt.ensures.meets test).1 (agrees_on (IsOfField field) test c.args.branch.now agrees))

pub returns-in-Unknown-clause-fault : goal.returns-in-Unknown-clause-fault
returns-in-Unknown-clause-fault c =
    let (not_compared, unsearched) = rw (c.as_slice.ensures.value, c.in-Unknown.is) at c.in_ok-text.ensures in
    record { is_open = record { about = c.in_ok-doubt.ensures.about; not_compared = not_compared }; unsearched = unsearched }

pub returns-clause-fault : goal.returns-clause-fault
returns-clause-fault c = (
  c.in_ok-doubt.doubt,
  record { about = c.in_ok-doubt.ensures.about; not_compared = rw (c.as_slice.ensures.value, c.in-Stopped.is) at c.in_ok-text.ensures },
)
