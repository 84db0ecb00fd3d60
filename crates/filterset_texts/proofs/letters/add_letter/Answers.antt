use Rattle.std.proofs.Common.{◌≡◌, refl, sym, ◌∙◌, subst, List, [], ◌∷◌}
use Rattle.std.specs.List.{All, Any}
use Rattle.std.proofs.lemmas.List.{Elements.All-push, Quantifiers.Any-push}
use Rattle.filterset_texts.specs.{declared.letters.Letter.Letter, Letters.HasLetterLike}
use Rattle.filterset_texts.specs.Places.{IsAdmittedAt, row_of}
use Rattle.filterset_texts.proofs.Lists.{any_left, any_weaker}
use Rattle.filterset_texts.proofs.letters.add_letter.Goals as goal

pub returns-in_ok-push-clause-kept : goal.returns-in_ok-push-clause-kept
returns-in_ok-push-clause-kept c =
    let row = row_of c.args.places.now in
    let letter : Letter = record { character = c.args.character; marks = c.in_ok-marks.marks } in
    let old = c.args.letters.now.items in
    record {
      each = λ all. subst (All (λ (l : Letter). IsAdmittedAt row l.character l.marks.items)) (sym c.in_ok-push.ensures.items)
          (All-push (λ (l : Letter). IsAdmittedAt row l.character l.marks.items) old letter all c.in_ok-marks.ensures);
      all = λ ch like. subst (λ (ls : List Letter). HasLetterLike row ls ch) (sym c.in_ok-push.ensures.items)
          (any_left (λ (l : Letter). IsAdmittedAt row ch l.marks.items) old (letter ∷ []) like);
    }

pub returns-in_ok-push-clause-has : goal.returns-in_ok-push-clause-has
returns-in_ok-push-clause-has c =
    let row = row_of c.args.places.now in
    let letter : Letter = record { character = c.args.character; marks = c.in_ok-marks.marks } in
    subst (λ (ls : List Letter). HasLetterLike row ls c.args.character) (sym c.in_ok-push.ensures.items)
    (Any-push (λ (l : Letter). IsAdmittedAt row c.args.character l.marks.items) c.args.letters.now.items letter c.in_ok-marks.ensures)

pub returns-else-not-has_marks-clause-has : goal.returns-else-not-has_marks-clause-has
returns-else-not-has_marks-clause-has c =
    let row = row_of c.args.places.now in
    let found : Any (λ (l : Letter). l.marks.items ≡ c.deref-2.result.now) c.args.letters.now.items =
    subst (Any (λ (l : Letter). l.marks.items ≡ c.deref-2.result.now)) c.deref.ensures.value (c.if-not-has_marks.ensures.0 refl) in
    any_weaker (λ (l : Letter). l.marks.items ≡ c.deref-2.result.now) (λ (l : Letter). IsAdmittedAt row c.args.character l.marks.items) c.args.letters.now.items
    (λ l same. subst (IsAdmittedAt row c.args.character) (sym (same ∙ c.deref-2.ensures.value)) c.in_ok-marks.ensures) found
