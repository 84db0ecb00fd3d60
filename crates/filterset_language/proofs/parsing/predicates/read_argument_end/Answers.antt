use Rattle.std.proofs.Common.{refl, ap, sym}
use Rattle.std.specs.Prelude.{codes}
use Rattle.filterset_language.proofs.{FaultsStand.comma_found, Positions.AtOrBehind-then}
use Rattle.filterset_language.proofs.Recovering.{reported, keeps_along, keeps_then, if_ok, recovers_as}
use Rattle.filterset_language.specs.Parsing.Position.{Position, skip, after}
use Rattle.filterset_language.proofs.parsing.predicates.read_argument_end.Goals as goal

pub returns-in-Some-clause-stand : goal.returns-in-Some-clause-stand
returns-in-Some-clause-stand c =
    let first = reported _ _ _ _ c.in_ok-push.ensures.items (rw c.here.ensures (comma_found c.args.input c.in-Some.field-0 _ c.skip_blanks-start.ensures.value c.in-Some.ensures.value)) in
    if_ok c.read_close.result _ _ (λ r keeps. keeps_then _ _ _ _ _ _ refl c.advance_to_close.ensures.behind.text first keeps) c.read_close.ensures.stand

pub returns-clause-value : goal.returns-clause-value
returns-clause-value c =
    let same = ap (λ (p : Position). after (codes ")") (skip p)) (sym c.remember_blanks.ensures.value) in
    if_ok c.read_close-2.result _ _ (λ r v. recovers_as _ _ _ _ _ _ v refl same) c.read_close-2.ensures.value

pub returns-clause-stand : goal.returns-clause-stand
returns-clause-stand c = if_ok c.read_close-2.result _ _ (λ r keeps. keeps_along _ _ _ _ c.remember_blanks.ensures.behind.text keeps) c.read_close-2.ensures.stand

pub returns-clause-behind : goal.returns-clause-behind
returns-clause-behind c = if_ok c.read_close-2.result _ _ (λ r behind. AtOrBehind-then _ _ _ c.remember_blanks.ensures.behind behind) c.read_close-2.ensures.behind
