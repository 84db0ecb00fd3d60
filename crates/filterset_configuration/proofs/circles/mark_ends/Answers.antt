use Rattle.std.proofs.Common.{rules, ◌≡◌, ◌<◌, ◌+◌, Bool, List, None, Option, Some, ℕ, ap, arith, drop, false, get_or, length, replicate, subst, sym, true}
use Rattle.std.specs.Prelude.{option_and_then, slice_get}
use Rattle.std.proofs.lemmas.Option.{slice_get-get_or}
use Rattle.filterset_configuration.specs.Leads.{IsMarked, lead}
use Rattle.filterset_configuration.proofs.EndLemmas.{MarksEndsBelow, ends_all, ends_more, ends_none, no_marks, whole_written}
use Rattle.filterset_configuration.proofs.circles.mark_ends.Goals as goal

pub loop-to-init : goal.loop-to-init
loop-to-init c =
    let leads = c.args.leads.now in
    let marks = c.in_ok-marks.marks.items in
    let items : marks ≡ replicate (length leads) false = search (rules, c.in_ok-marks.ensures.items_if_clones_equal) in
    ends_none leads marks (search (rules, c.in_ok-marks.ensures.len))
    (λ at marked. no_marks (length leads) at (subst (λ (ms : List Bool). slice_get ms at ≡ Some true) items marked))

pub loop-to-preserved : goal.loop-to-preserved
loop-to-preserved c =
    let leads = c.args.leads.now in
    let i = c.loop-to.to-index in
    let marks = c.loop-to.marks.items in
    let new = c.mark.new.marks in
    let to = get_or leads i None in
    let here : lead leads i ≡ to = ap (option_and_then (λ (o : Option ℕ). o)) (slice_get-get_or leads i None (omega (arith, c.loop-to-test.true))) in
    let is : IsMarked marks to new = subst (λ (ms : List Bool). IsMarked ms to new) c.deref_mut.ensures.value c.mark.ensures in
    subst (λ (ms : List Bool). MarksEndsBelow leads (i + 1) ms) (sym (whole_written c.loop-to.marks.len new (drop (length new) marks) (omega (arith, is.0, c.loop-to.marks.ok.0))))
    (ends_more leads i marks new to here is c.loop-to.invariant)

pub returns : goal.returns
returns c = ends_all c.args.leads.now c.loop-to.to-index c.loop-to.marks.items c.loop-to-test.false c.loop-to.invariant
