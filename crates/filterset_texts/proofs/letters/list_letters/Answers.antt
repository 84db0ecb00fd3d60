use Rattle.std.proofs.{Common.◌≡◌, Common.subst, Common.◌∙◌, lemmas.List.Elements.All-nil}
use Rattle.std.specs.{Char.InScalarRange, List.All}
use Rattle.filterset_texts.specs.{declared.letters.Letter.Letter, Letters.HasLetterLike, Letters.cuts_of}
use Rattle.filterset_texts.specs.Places.{IsAdmittedAt, row_of}
use Rattle.filterset_texts.proofs.Alike.{all_from_cuts}
use Rattle.filterset_texts.proofs.letters.list_letters.Goals as goal

pub loop-byte-preserved : goal.loop-byte-preserved
loop-byte-preserved c = record {
  each = λ all. c.in_ok-add_letter.ensures.kept.each (c.loop-byte.invariant.each all);
  all = λ ch like. c.in_ok-add_letter.ensures.kept.all ch (c.loop-byte.invariant.all ch like);
}

pub returns : goal.returns
returns c =
    let row = row_of c.args.places.now in
    let added = c.in_ok-add_letters.ensures in
    let letters = c.add_letters.new.letters.items in
    record {
      each = added.kept.each (c.loop-byte.invariant.each (All-nil (λ (letter : Letter). IsAdmittedAt row letter.character letter.marks.items)));
      all = all_from_cuts row letters (subst (All (λ number. InScalarRange number → HasLetterLike row letters number)) (c.deref.ensures.value ∙ c.in_ok-cuts.ensures) added.has);
    }
