use Rattle.std.proofs.Common.{◌≡◌, ◌∙◌, ◌++◌, ap, append_assoc}
use Rattle.std.proofs.lemmas.{Result.on_ok_weaker, List.take_all}
use Rattle.filterset_listing.specs.Asking.{Text}
use Rattle.filterset_listing.proofs.listing.text.push_counts.Goals as goal

-- four parts are written one after the other
written : (start a b c d one two three all : Text) → one ≡ start ++ a → two ≡ one ++ b → three ≡ two ++ c → all ≡ three ++ d → all ≡ start ++ (a ++ (b ++ (c ++ d)))
written start a b c d one two three all e f g h =
    h ∙ ap (λ t. t ++ d) (g ∙ ap (λ t. t ++ c) (f ∙ ap (λ t. t ++ b) e)) ∙ simp append_assoc

pub returns : goal.returns
returns c =
    let all = c.args.all.now in
    let counted = c.loop-picks.invariant in
    let tests = rw (take_all c.loop-picks.picks-index all c.loop-picks-test.false) at counted in
    let counts = rw (tests, c.binary_count-binaries.ensures, c.left_out_count-left_out.ensures) at c.in_ok-write.ensures.bytes in
    let unknown = rw c.in_ok-unknown_count.ensures at c.in_ok-push_some.ensures in
    let uncounted = rw c.in_ok-uncounted.ensures at c.in_ok-push_some-2.ensures in
    on_ok_weaker c.writeln.result (λ line. written _ _ _ _ _ _ _ _ _ counts unknown uncounted line) c.writeln.ensures.bytes
