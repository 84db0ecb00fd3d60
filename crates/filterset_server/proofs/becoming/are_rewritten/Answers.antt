use Rattle.std.proofs.Common.{rules, arith, ◌≡◌, ◌<◌, ◌∙◌, ap, get_or, length, map, sym}
use Rattle.std.proofs.lemmas.List.{drop_all, length-map}
use Rattle.filterset_entries.specs.Checked.{text_row}
use Rattle.filterset_server.proofs.BecomingLemmas.{now_of, rewritten_long, rewritten_more, rewritten_none, rewritten_rest, rewritten_unlike, rows_next, texts_next}
use Rattle.filterset_server.proofs.becoming.are_rewritten.Goals as goal

pub returns-then-entries-others-clause-others : goal.returns-then-entries-others-clause-others
returns-then-entries-others-clause-others c =
    let entries = c.args.entries.now in
    let others = c.args.others.now in
    λ are.
    c.if-entries-others.true
    (sym (length-map entries text_row)
    ∙ rewritten_long (map text_row entries) (map now_of c.args.texts.now) (map text_row others) are
    ∙ length-map others text_row)

pub loop-i-preserved : goal.loop-i-preserved
loop-i-preserved c =
    let entries = c.args.entries.now in
    let texts = c.args.texts.now in
    let others = c.args.others.now in
    let i = c.loop-i.i in
    let entry = c.index-entries-i.result in
    let other = c.index-others-i.result in
    let inside : i < length others = omega (arith, c.loop-i-test.true) in
    let lt : i < length entries = omega (arith, c.loop-i-test.true, c.if-entries-others.false) in
    let within : i < length texts = omega (arith, lt, c.requires) in
    let at : get_or entries i entry ≡ entry = search (rules, c.index-entries-i.is) in
    let has : get_or others i other ≡ other = search (rules, c.index-others-i.is) in
    let row_is = rows_next text_row entries i entry lt at in
    let other_is = rows_next text_row others i other inside has in
    let same = c.if-not-is_rewritten.ensures.is in
    record {
      left = λ are. c.loop-i.invariant.left
          (rewritten_more _ _ _ _ _ _ (text_row entry) _ (text_row other) same row_is (texts_next texts i _ within) other_is are);
      whole = λ are.
          rewritten_rest _ _ _ _ _ _ (text_row entry) _ (text_row other) same row_is (texts_next texts i _ within) other_is (c.loop-i.invariant.whole are);
    }

pub returns-then-not-is_rewritten-clause-others : goal.returns-then-not-is_rewritten-clause-others
returns-then-not-is_rewritten-clause-others c =
    let entries = c.args.entries.now in
    let texts = c.args.texts.now in
    let others = c.args.others.now in
    let i = c.loop-i.i in
    let entry = c.index-entries-i.result in
    let other = c.index-others-i.result in
    let inside : i < length others = omega (arith, c.loop-i-test.true) in
    let lt : i < length entries = omega (arith, c.loop-i-test.true, c.if-entries-others.false) in
    let within : i < length texts = omega (arith, lt, c.requires) in
    let at : get_or entries i entry ≡ entry = search (rules, c.index-entries-i.is) in
    let has : get_or others i other ≡ other = search (rules, c.index-others-i.is) in
    let row_is = rows_next text_row entries i entry lt at in
    let other_is = rows_next text_row others i other inside has in
    let unlike = c.if-not-is_rewritten.ensures.other in
    λ are.
    rewritten_unlike _ _ _ _ _ _ (text_row entry) _ (text_row other) unlike row_is (texts_next texts i _ within) other_is (c.loop-i.invariant.whole are)

pub returns-clause-are : goal.returns-clause-are
returns-clause-are c =
    let entries = c.args.entries.now in
    let texts = c.args.texts.now in
    let others = c.args.others.now in
    let i = c.loop-i.i in
    let no_others = ap (map text_row) (drop_all i others c.loop-i-test.false) in
    let no_rows = ap (map text_row) (drop_all i entries (omega (arith, c.loop-i-test.false, c.if-entries-others.false))) in
    let no_texts = ap (map now_of) (drop_all i texts (omega (arith, c.loop-i-test.false, c.if-entries-others.false, c.requires))) in
    c.loop-i.invariant.left (rewritten_none _ _ _ no_rows no_texts no_others)
