use Rattle.std.proofs.Common.{◌≡◌, ◌<◌, ◌∙◌, ℕ, ◌+◌, ◌++◌, [], ◌∷◌, List, append_assoc, codes, length, get_or, ap, refl, sym, take}
use Rattle.std.proofs.lemmas.{Grind.flat_map-append, List.append-nil, List.take_all}
use Rattle.std.specs.{List.flat_map, Prelude.if◌then◌else◌}
use Rattle.filterset_listing.specs.{Asking.Text, ListText.is_open, ListText.unknown_line}
use Rattle.filterset_listing.specs.declared.listing.UnknownTest.{UnknownTest}
use Rattle.filterset_listing.proofs.ListingLemmas.{one_more}
use Rattle.filterset_listing.proofs.listing.text.push_shown.Goals.{then-is_open, else-is_open}
use Rattle.filterset_listing.proofs.listing.text.push_shown.Goals as goal

-- one more line
one_line : (front : Text) (tests : List UnknownTest) (i : ℕ) (unknown : UnknownTest) → i < length tests → get_or tests i unknown ≡ unknown
    → (front ++ flat_map unknown_line (take i tests)) ++ unknown_line unknown ≡ front ++ flat_map unknown_line (take (i + 1) tests)
one_line front tests i unknown lt at =
    rw (one_more tests i unknown lt at, flat_map-append unknown_line (take i tests) (unknown ∷ []), append-nil (unknown_line unknown)) (append_assoc front (flat_map unknown_line (take i tests)) (unknown_line unknown))

pub loop-unknown-preserved : goal.loop-unknown-preserved
loop-unknown-preserved c =
    let tests = c.deref-unknown-items.result.now in
    let i = c.loop-unknown.unknown-index in
    let unknown = c.unknown-item.result in
    let line = rw c.as_str-test-in-loop-unknown.ensures at c.in_ok-writeln-2.ensures.bytes in
    line ∙ ap (λ (out : Text). out ++ unknown_line unknown) c.loop-unknown.invariant ∙ one_line _ tests i unknown c.loop-unknown-test.true (sym c.unknown-item.is)

-- three parts are written one after the other
written : (start a b c one two all : Text) → one ≡ start ++ a → two ≡ one ++ b → all ≡ two ++ c → all ≡ start ++ (a ++ (b ++ c))
written start a b c one two all e f g = g ∙ ap (λ t. t ++ c) (f ∙ ap (λ t. t ++ b) e) ∙ simp append_assoc

pub returns : goal.returns
returns c =
    let opens = c.is_open.ensures in
    let skipped : c.if-is_open.skipped.now ≡ (if is_open c.args.picks.now then codes "    (skipped)\n" else []) = elim c.if-is_open.branch [
      | then-is_open w ↦ rw (w.skipped-is, sym opens ∙ w.if-is_open.true) refl
      | else-is_open w ↦ rw (w.skipped-is, sym opens ∙ w.if-is_open.false) refl
    ] in
    let head = rw (c.as_str-id.ensures, skipped) at c.in_ok-write.ensures.bytes in
    let picked = rw (take_all c.loop-test.test-index c.deref-test-items.result.now c.loop-test-test.false, c.deref-test-items.ensures.value) at c.loop-test.invariant in
    let unknown = rw (take_all c.loop-unknown.unknown-index c.deref-unknown-items.result.now c.loop-unknown-test.false, c.deref-unknown-items.ensures.value) at c.loop-unknown.invariant in
    written _ _ _ _ _ _ _ head picked unknown
