use Rattle.std.proofs.Common.{◌↔◌, ◌+◌, List, ap, subst, sym, ◌∙◌, length, take, drop, arith, refl, IsTrue, ◌++◌, rules}
use Rattle.std.proofs.lemmas.{Bool.false≢true, List.take_rest, List.take_all, List.length-drop}
use Rattle.std.proofs.lemmas.List.Elements.{All-more, All-from_recursion, recursion_from_All}
use Rattle.std.specs.{List.All, Prelude.◌-◌, declared.vec.Vec.Vec, declared.alloc.Global.Global}
use Rattle.filterset_texts.specs.{declared.part.Part.Part, Parts.FitsSome, Parts.IsMetBy, Parts.place_count}
use Rattle.filterset_texts.specs.Places.{LeadsTo, places_of, places_of_sequences}
use Rattle.filterset_texts.proofs.Ends.{all_place_count_more, leads_from, met_if, unmet_if}
use Rattle.filterset_texts.proofs.meeting.are_met.Goals as goal

pub is_end_marked-fits_one-requires : goal.is_end_marked-fits_one-requires
is_end_marked-fits_one-requires c = search (rules, arith, all_place_count_more, take_rest, length-drop)

pub count_places-first-requires : goal.count_places-first-requires
count_places-first-requires c = search (rules, arith, all_place_count_more)

pub overflow_add-first : goal.overflow_add-first
overflow_add-first c = search (rules, arith, all_place_count_more)

pub returns-then-fits_one-condition : goal.returns-then-fits_one-condition
returns-then-fits_one-condition c = λ text leads.
    let item = c.condition-item.result in
    let i = c.loop-condition.condition-index in
    let first = c.loop-condition.first in
    let marks = c.args.marks.now in
    let conditions = c.args.conditions.now in
    let behind = leads_from conditions i item first c.loop-condition-test.true c.condition-item.is c.loop-condition.invariant.first text marks leads in
    let more = places_of (drop (i + 1) conditions) in
    let given = subst (λ (s : List (Vec Part Global)). LeadsTo (places_of_sequences s ++ more) text (take (length marks - first) (drop first marks))) (sym c.deref.ensures.value)
    (subst (LeadsTo (places_of_sequences item.sequences.items ++ more) text) (sym (take_rest marks first)) behind) in
    let fits : IsTrue c.is_end_marked-fits_one.result ↔ FitsSome item.sequences.items text =
    subst (λ (s : List (Vec Part Global)). IsTrue c.is_end_marked-fits_one.result ↔ FitsSome s text) c.deref.ensures.value (c.is_end_marked-fits_one.ensures more text given) in (
      λ h. absurd (false≢true h),
      λ meets. absurd (unmet_if c.is_end_marked-fits_one.result item.is_matched (FitsSome item.sequences.items text) c.if-fits_one-condition.true fits
          (subst (IsMetBy text) (sym c.condition-item.is) (All-from_recursion (IsMetBy text) conditions meets i item c.loop-condition-test.true))),
    )

pub loop-condition-preserved : goal.loop-condition-preserved
loop-condition-preserved c =
    let item = c.condition-item.result in
    let i = c.loop-condition.condition-index in
    let first = c.loop-condition.first in
    let marks = c.args.marks.now in
    let conditions = c.args.conditions.now in
    let step = all_place_count_more conditions i item c.loop-condition-test.true c.condition-item.is in
    let count = c.count_places-first.ensures ∙ ap place_count c.deref-in-loop-condition.ensures.value in
    record {
      first = omega (arith, step.0, c.loop-condition.invariant.first, count);
      within = omega (arith, step.0, step.1, c.loop-condition.invariant.first, count);
      met = λ text leads.
          let behind = leads_from conditions i item first c.loop-condition-test.true c.condition-item.is c.loop-condition.invariant.first text marks leads in
          let more = places_of (drop (i + 1) conditions) in
          let given = subst (λ (s : List (Vec Part Global)). LeadsTo (places_of_sequences s ++ more) text (take (length marks - first) (drop first marks))) (sym c.deref.ensures.value)
          (subst (LeadsTo (places_of_sequences item.sequences.items ++ more) text) (sym (take_rest marks first)) behind) in
          let fits : IsTrue c.is_end_marked-fits_one.result ↔ FitsSome item.sequences.items text =
          subst (λ (s : List (Vec Part Global)). IsTrue c.is_end_marked-fits_one.result ↔ FitsSome s text) c.deref.ensures.value (c.is_end_marked-fits_one.ensures more text given) in
          All-more (IsMetBy text) conditions i item c.loop-condition-test.true (c.loop-condition.invariant.met text leads)
          (subst (IsMetBy text) c.condition-item.is
          (met_if c.is_end_marked-fits_one.result item.is_matched (FitsSome item.sequences.items text) c.if-fits_one-condition.false fits));
    }

pub returns : goal.returns
returns c = λ text leads. (
  λ h. recursion_from_All (IsMetBy text) c.args.conditions.now
      (subst (All (IsMetBy text)) (take_all c.loop-condition.condition-index c.args.conditions.now c.loop-condition-test.false) (c.loop-condition.invariant.met text leads)),
  λ meets. refl,
)
