use Rattle.std.proofs.Common.{◌≡◌, ◌+◌, ◌++◌, ◌∷◌, [], length, length-append, arith, ap, refl, sym, ◌∙◌}
use Rattle.std.specs.{Prelude.chars, Prelude.encode_utf8, Prelude.encode_utf8_all, Str.Iter.chars_rest}
use Rattle.std.proofs.lemmas.{Iterator.YieldsList-from_chars, Iterator.Consumers.YieldsList-end, List.map-id}
use Rattle.filterset_display.specs.Columns.{columns_of}
use Rattle.filterset_display.proofs.ColumnLemmas.{encodes-push, named-within, within, within-push_after, within-push_before, within-push_in}
use Rattle.filterset_display.proofs.column.columns_between.Goals.{then-from-at+then-at-to, else-from-at, else-from-at-via-then-from-at+else-at-to, else-from-at-via-else-from-at}
use Rattle.filterset_display.proofs.column.columns_between.Goals as goal

pub loop-c-preserved : goal.loop-c-preserved
loop-c-preserved c =
    let read = c.loop-c.yielded in
    let next = c.in-Some.c in
    let at = c.loop-c.invariant.passed in
    let bytes : length (encode_utf8_all (read ++ next ∷ [])) ≡ length (encode_utf8_all read) + length (encode_utf8 next) = encodes-push read next in
    let step : chars_rest c.loop-c.c-iterator ≡ encode_utf8 next ++ chars_rest c.next.new.self = c.in-Some.ensures.steps.0 in
    let rest : length (chars_rest c.loop-c.c-iterator) ≡ length (encode_utf8 next) + length (chars_rest c.next.new.self) =
    ap length step ∙ length-append (encode_utf8 next) (chars_rest c.next.new.self) in
    let size = c.len_utf8-at.ensures.len in
    record {
      counted = elim c.if-from-at.branch [
        | then-from-at+then-at-to w ↦
            w.columns-is ∙ ap (λ n. c.loop-c.columns + n) w.columns_of-columns.ensures.value ∙ ap (λ n. n + columns_of next) c.loop-c.invariant.counted
            ∙ sym (within-push_in c.args.from c.args.to read next c.loop-c.at at w.if-from-at.true w.if-at-to.true)
        | else-from-at w ↦ w.columns-is ∙ c.loop-c.invariant.counted ∙ elim w.else-from-at.branch [
          | else-from-at-via-then-from-at+else-at-to v ↦ sym (within-push_after c.args.from c.args.to read next c.loop-c.at at v.if-at-to.false)
          | else-from-at-via-else-from-at v ↦ sym (within-push_before c.args.from c.args.to read next c.loop-c.at at v.if-from-at.false)
        ]
      ];
      passed = omega arith;
      left = omega arith;
      bounded = elim c.if-from-at.branch [
        | then-from-at+then-at-to w ↦ omega (arith, w.columns_of-columns.ensures.bound)
        | else-from-at w ↦ omega arith
      ];
    }

pub returns-clause-value : goal.returns-clause-value
returns-clause-value c =
    let t = YieldsList-end (YieldsList-from_chars c.args.text.now c.utf8.text cc) c.loop-c.yielded _ c.loop-c.yielded_by _ _ c.in-None.is c.next.ensures.steps in
    let whole = chars c.args.text.now in
    c.loop-c.invariant.counted ∙ ap (within c.args.from c.args.to 0) (sym (map-id c.loop-c.yielded) ∙ t.0)
    ∙ sym (named-within c.args.from c.args.to whole [] whole refl)
