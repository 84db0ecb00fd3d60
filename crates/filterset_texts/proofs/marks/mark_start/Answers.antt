use Rattle.std.proofs.Common.{◌+◌, refl, ap, ◌∙◌, [], true, false, None, Some, length}
use Rattle.std.proofs.lemmas.List.{length_push}
use Rattle.filterset_texts.specs.declared.part.Part.TheVariants as part
use Rattle.filterset_texts.specs.Places.{row_of, place_of}
use Rattle.filterset_texts.proofs.Marking.{IsMarkedTo, marked_next, parts_at, start_one, start_any}
use Rattle.filterset_texts.proofs.marks.mark_start.Goals as goal
use Rattle.filterset_texts.proofs.marks.mark_start.Goals.{in-None, in-Some-One, in-Some-Any}

pub loop-place-preserved : goal.loop-place-preserved
loop-place-preserved c =
    let l = c.loop-place in
    let row = row_of c.args.places.now in
    let parts = parts_at row l.place-index in
    let next = marked_next c.args.places.now [] l.place-index c.place-item.result in
    let marked : IsMarkedTo row [] (l.place-index + 1) c.match-place.reached c.push.new.self.items =
    elim c.match-place.branch [
      | in-None w ↦ next None l.reached c.match-place.reached true l.marks.items c.push.new.self.items c.loop-place-test.true c.place-item.is (ap place_of w.in-None.is) w.reached-is l.invariant.counted c.in_ok-push.ensures.items l.invariant.marked (λ h. refl, λ h. refl)
      | in-Some-One w ↦ next (Some (part.One w.in-Some-One.field-0-0 w.in-Some-One.field-0-1)) l.reached c.match-place.reached false l.marks.items c.push.new.self.items c.loop-place-test.true c.place-item.is (ap place_of w.in-Some-One.is ∙ ap Some (rw w.in-Some-One.is at w.in-Some-One.field-0-is)) w.reached-is l.invariant.counted c.in_ok-push.ensures.items l.invariant.marked (start_one parts w.in-Some-One.field-0-0 w.in-Some-One.field-0-1)
      | in-Some-Any w ↦ next (Some part.Any) l.reached c.match-place.reached l.reached l.marks.items c.push.new.self.items c.loop-place-test.true c.place-item.is (ap place_of w.in-Some-Any.is ∙ ap Some (rw w.in-Some-Any.is at w.in-Some-Any.field-0-is)) w.reached-is l.invariant.counted c.in_ok-push.ensures.items l.invariant.marked (start_any parts l.reached l.invariant.marked.last)
    ] in
    record {
      counted = ap length c.in_ok-push.ensures.items ∙ length_push l.marks.items c.match-place.reached ∙ ap (λ n. n + 1) l.invariant.counted;
      marked = marked;
    }
