use Rattle.std.proofs.Common.{◌≡◌, ℕ, ◌+◌, sym, ap, subst, List, get_or, take}
use Rattle.std.proofs.lemmas.{Bool.false≢true, List.take_all, List.Elements.All-more, List.Elements.All-weaker}
use Rattle.std.specs.{Char.InScalarRange, List.All, declared.alloc.Global.Global, declared.vec.Vec.Vec}
use Rattle.filterset_texts.specs.{declared.letters.Letter.Letter, Letters.HasLetterLike, Letters.KeepsLetters}
use Rattle.filterset_texts.specs.Places.{row_of}
use Rattle.filterset_texts.proofs.letters.add_letters.Goals.{in-Some+in_ok-add_letter, in_default}
use Rattle.filterset_texts.proofs.letters.add_letters.Goals as goal

pub loop-number-preserved : goal.loop-number-preserved
loop-number-preserved c =
    let row = row_of c.args.places.now in
    let numbers = c.args.numbers.now in
    let l = c.loop-number in
    let before = l.invariant in
    let has : (letters : List Letter) → ℕ → Type 0 = λ letters number. InScalarRange number → HasLetterLike row letters number in
    elim c.match-from_u32.branch [
      | in-Some+in_ok-add_letter w ↦
          let new = w.add_letter.new.letters.items in
          let same : new ≡ c.match-from_u32.letters.items = ap (λ (v : Vec Letter Global). v.items) (sym w.letters-is) in
          let kept = w.in_ok-add_letter.ensures.kept in
          let here : has new (get_or numbers l.number-index 0) = λ scalar.
          subst (HasLetterLike row new) w.in-Some.ensures.value.1 w.in_ok-add_letter.ensures.has in
          record {
            kept = subst (KeepsLetters row c.args.letters.now.items) same (record {
              each = λ all. kept.each (before.kept.each all);
              all = λ ch like. kept.all ch (before.kept.all ch like);
            });
            has = subst (λ (letters : List Letter). All (has letters) (take (l.number-index + 1) numbers)) same
                (All-more (has new) numbers l.number-index 0 c.loop-number-test.true
                (All-weaker (has l.letters.items) (has new) (λ number was scalar. kept.all number (was scalar)) (take l.number-index numbers) before.has) here);
          }
      | in_default w ↦
          let same : l.letters.items ≡ c.match-from_u32.letters.items = ap (λ (v : Vec Letter Global). v.items) (sym w.letters-is) in
          let here : has l.letters.items (get_or numbers l.number-index 0) = λ scalar. absurd (false≢true (w.in_default.ensures.succeeds scalar)) in
          record {
            kept = subst (KeepsLetters row c.args.letters.now.items) same before.kept;
            has = subst (λ (letters : List Letter). All (has letters) (take (l.number-index + 1) numbers)) same
                (All-more (has l.letters.items) numbers l.number-index 0 c.loop-number-test.true before.has here);
          }
    ]

pub returns-clause-has : goal.returns-clause-has
returns-clause-has c =
    let whole = take_all c.loop-number.number-index c.args.numbers.now c.loop-number-test.false in
    subst (All (λ number. InScalarRange number → HasLetterLike (row_of c.args.places.now) c.loop-number.letters.items number)) whole c.loop-number.invariant.has
