use Rattle.std.proofs.Common.{ap, sym, ◌∙◌, false, None, Some, get_or}
use Rattle.std.specs.Prelude.{◌||◌, ◌&&◌}
use Rattle.filterset_texts.specs.declared.part.Part.TheVariants as part
use Rattle.filterset_texts.specs.Places.{place_of}
use Rattle.filterset_texts.proofs.Marking.{followed, told_first, told_one, told_any}
use Rattle.filterset_texts.proofs.marks.mark_next.Goals as goal
use Rattle.filterset_texts.proofs.marks.mark_next.Goals.{in-None, in-Some-Any+else-reached, in-Some-Any+then-reached, in-Some-One+else-was_reached, in-Some-One+then-was_reached}

pub loop-index-preserved : goal.loop-index-preserved
loop-index-preserved c =
    let l = c.loop-index in
    let places = c.args.places.now in
    let marks = c.args.marks.now in
    let admitted = c.args.admitted.now in
    let i = l.index in
    let place = c.index-places-index.result in
    let next = c.match-place.reached in
    let new = c.push.new.self.items in
    let short = c.loop-index-test.true in
    let is = c.index-places-index.is in
    let step = followed places marks admitted i place in
    let pushed = c.in_ok-push.ensures.items in
    let f = l.invariant in
    elim c.match-place.branch [
      | in-None w ↦ step None l.was_reached l.reached next false l.next.items new short is (ap place_of w.in-None.is) w.reached-is pushed f (λ text ch leads admits. told_first places i text ch)
      | in-Some-One+else-was_reached w ↦
          let known = ap place_of w.in-Some-One.is ∙ ap Some (rw w.in-Some-One.is at w.in-Some-One.field-0-is) in
          step (Some (part.One w.in-Some-One.field-0-0 w.in-Some-One.field-0-1)) l.was_reached l.reached next (l.was_reached && get_or admitted i false) l.next.items new short is known
          (w.reached-is ∙ w.if-was_reached.false ∙ sym (ap (λ b. b && get_or admitted i false) w.if-was_reached.false)) pushed f
          (told_one places marks admitted i place w.in-Some-One.field-0-0 w.in-Some-One.field-0-1 l.was_reached l.reached l.next.items c.requires.begins short is known f)
      | in-Some-One+then-was_reached w ↦
          let known = ap place_of w.in-Some-One.is ∙ ap Some (rw w.in-Some-One.is at w.in-Some-One.field-0-is) in
          step (Some (part.One w.in-Some-One.field-0-0 w.in-Some-One.field-0-1)) l.was_reached l.reached next (l.was_reached && get_or admitted i false) l.next.items new short is known
          (w.reached-is ∙ sym (ap (λ b. b && get_or admitted i false) w.if-was_reached.true)) pushed f
          (told_one places marks admitted i place w.in-Some-One.field-0-0 w.in-Some-One.field-0-1 l.was_reached l.reached l.next.items c.requires.begins short is known f)
      | in-Some-Any+else-reached w ↦
          let known = ap place_of w.in-Some-Any.is ∙ ap Some (rw w.in-Some-Any.is at w.in-Some-Any.field-0-is) in
          step (Some part.Any) l.was_reached l.reached next (l.reached || get_or marks i false) l.next.items new short is known
          (w.reached-is ∙ sym (ap (λ b. b || get_or marks i false) w.if-reached.false)) pushed f
          (told_any places marks admitted i place l.was_reached l.reached l.next.items short is known f)
      | in-Some-Any+then-reached w ↦
          let known = ap place_of w.in-Some-Any.is ∙ ap Some (rw w.in-Some-Any.is at w.in-Some-Any.field-0-is) in
          step (Some part.Any) l.was_reached l.reached next (l.reached || get_or marks i false) l.next.items new short is known
          (w.reached-is ∙ w.if-reached.true ∙ sym (ap (λ b. b || get_or marks i false) w.if-reached.true)) pushed f
          (told_any places marks admitted i place l.was_reached l.reached l.next.items short is known f)
    ]
