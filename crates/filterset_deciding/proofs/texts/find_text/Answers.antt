use Rattle.std.proofs.Common.{◌∙◌, sym, subst}
use Rattle.filterset_deciding.specs.Texts.{Meets}
use Rattle.filterset_deciding.proofs.Parts.{joined_meets}
use Rattle.filterset_deciding.proofs.texts.find_text.Goals as goal

pub take_if_met-requires : goal.take_if_met-requires
take_if_met-requires c = λ any utf8 met.
    let same = (rw c.in-Some.is at c.in_ok-text.ensures.only) any utf8 met in
    subst (λ z. Meets z c.args.demands.now) (same ∙ sym c.in_ok-only.ensures.ok) met

pub take_if_met-requires-2 : goal.take_if_met-requires-2
take_if_met-requires-2 c = λ any utf8 met.
    let demands = c.args.demands.now in
    subst (λ z. Meets z demands) (sym c.in_ok-parts.ensures) (joined_meets c.in-Some-find_separator.c any demands c.in-Some-find_separator.ensures.some.1 (rw c.in_default.is at c.in_ok-text.ensures.none) met)
