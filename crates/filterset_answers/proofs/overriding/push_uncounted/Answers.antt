use Rattle.std.proofs.Common.{◌≡◌, ◌∙◌, ◌++◌, ap, append_assoc}
use Rattle.filterset_display.specs.Columns.{Text}
use Rattle.filterset_answers.proofs.overriding.push_uncounted.Goals as goal

-- three parts are written one after the other
written : (start a b c one two all : Text) → one ≡ start ++ a → two ≡ one ++ b → all ≡ two ++ c → all ≡ start ++ (a ++ (b ++ c))
written start a b c one two all e f g = g ∙ ap (λ t. t ++ c) (f ∙ ap (λ t. t ++ b) e) ∙ simp append_assoc

pub returns : goal.returns
returns c =
    let first = rw c.in_ok-unknown.ensures at c.in_ok-push_some.ensures in
    let second = rw c.skipped_count-skipped.ensures at c.in_ok-push_some-2.ensures in
    let third = rw c.in_ok-uncounted.ensures at c.in_ok-push_some-3.ensures in
    written _ _ _ _ _ _ _ first second third
