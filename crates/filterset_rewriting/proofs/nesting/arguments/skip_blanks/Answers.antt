use Rattle.std.proofs.Common.{arith, ◌+◌, ◌∙◌, ap, refl, sym}
use Rattle.filterset_language.proofs.Positions.{skip_again, skip_step, skip_stop}
use Rattle.filterset_language.specs.Parsing.Position.{Position, skip_from}
use Rattle.filterset_rewriting.proofs.nesting.arguments.skip_blanks.Goals as goal

pub loop-rest-init : goal.loop-rest-init
loop-rest-init c = record { within = omega arith; same = (0, refl) }

pub loop-rest-preserved : goal.loop-rest-preserved
loop-rest-preserved c =
    let (at, same) = c.loop-rest.invariant.same in
    record {
      within = omega (arith, c.split_at.ensures.back_len, c.loop-rest.invariant.within);
      same = (at + c.blank_len-count.result, rw c.split_at.ensures.back (sym (skip_step _ at c.loop-rest.rest.now c.blank_len-count.ensures.value (omega arith)) ∙ same));
    }

pub returns-then-count-eq0-clause-skipped : goal.returns-then-count-eq0-clause-skipped
returns-then-count-eq0-clause-skipped c blanks t are stop is =
    let (at, same) = c.loop-rest.invariant.same in
    let stays = skip_stop at c.loop-rest.rest.now (sym c.blank_len-count.ensures.value ∙ c.if-count-eq0.true) in
    ap (λ (p : Position). p.rest) (sym stays ∙ same ∙ ap (skip_from 0) is ∙ skip_again are 0 t stop)
