use Rattle.std.proofs.Common.{◌≡◌, ◌+◌, ap, subst, sym, ◌∙◌, length, take, arith, refl, rules}
use Rattle.std.proofs.lemmas.{Bool.false≢true, List.Elements.All-more}
use Rattle.std.specs.declared.{vec.Vec.Vec, alloc.Global.Global}
use Rattle.filterset_texts.specs.{declared.part.Part.Part, Parts.Fits, Parts.place_count}
use Rattle.filterset_texts.proofs.{Ends.place_count_more, Ends.end_marked, Lists.any_at}
use Rattle.filterset_texts.proofs.meeting.is_end_marked.Goals as goal

pub overflow_add-last : goal.overflow_add-last
overflow_add-last c = search (rules, arith, place_count_more)

pub bounds-marks-last : goal.bounds-marks-last
bounds-marks-last c = search (rules, arith, place_count_more)

pub overflow_add-first : goal.overflow_add-first
overflow_add-first c = search (rules, arith, place_count_more)

pub returns-then-marks-last : goal.returns-then-marks-last
returns-then-marks-last c = λ more text leads. let t = c.if-marks-last.true in
    let count : c.len.result ≡ length c.sequence-item.result.items = c.len.ensures ∙ c.sequence-item.result.ok.0 in
    let place = sym (ap (λ n. n + c.len.result) c.loop-sequence.invariant.first ∙ ap (λ n. place_count (take c.loop-sequence.sequence-index c.args.sequences.now) + n) count) in
    let marked = end_marked c.args.sequences.now c.loop-sequence.sequence-index c.sequence-item.result (c.loop-sequence.first + c.len.result) c.loop-sequence-test.true c.sequence-item.is place more text c.args.marks.now leads in
    (λ h. any_at (λ (sequence : Vec Part Global). Fits sequence.items text) c.args.sequences.now c.loop-sequence.sequence-index c.sequence-item.result c.loop-sequence-test.true c.sequence-item.is (marked.0 t), λ h. refl)

pub loop-sequence-preserved : goal.loop-sequence-preserved
loop-sequence-preserved c =
    let step = place_count_more c.args.sequences.now c.loop-sequence.sequence-index c.sequence-item.result c.loop-sequence-test.true c.sequence-item.is in
    let count : c.len.result ≡ length c.sequence-item.result.items = c.len.ensures ∙ c.sequence-item.result.ok.0 in
    let place = sym (ap (λ n. n + c.len.result) c.loop-sequence.invariant.first ∙ ap (λ n. place_count (take c.loop-sequence.sequence-index c.args.sequences.now) + n) count) in
    record {
      first = omega (arith, step.0, count, c.loop-sequence.invariant.first);
      unfit = λ more text leads.
          let marked = end_marked c.args.sequences.now c.loop-sequence.sequence-index c.sequence-item.result (c.loop-sequence.first + c.len.result) c.loop-sequence-test.true c.sequence-item.is place more text c.args.marks.now leads in
          let unfit : Vec Part Global → Type 0 = λ sequence. Fits sequence.items text → ⊥ in
          All-more unfit c.args.sequences.now c.loop-sequence.sequence-index c.sequence-item.result c.loop-sequence-test.true
          (c.loop-sequence.invariant.unfit more text leads)
          (subst unfit c.sequence-item.is (λ fits. absurd (false≢true (sym c.if-marks-last.false ∙ marked.1 fits))));
    }
