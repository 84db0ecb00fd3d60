use Rattle.std.proofs.Common.{◌≡◌, ◌∙◌, ◌+◌, ◌<◌, ◌++◌, ◌∷◌, [], ℕ, List, ap, arith, get_or, length, string_bytes, sym, take}
use Rattle.std.specs.List.{flat_map}
use Rattle.std.proofs.lemmas.{Grind.flat_map-append, List.append-nil, List.take_more}
use Rattle.std.proofs.Math.Seq.{take-length}
use Rattle.filterset_listing.specs.ExplanationText.{explained_line}
use Rattle.filterset_listing.proofs.explaining.text.nodes_text.Goals as goal

-- one more is written
written_more : {X : Type 0} (f : X → List ℕ) (xs : List X) (i : ℕ) (one : X) (old new : List ℕ) → i < length xs → one ≡ get_or xs i one → old ≡ flat_map f (take i xs) → new ≡ old ++ f one → new ≡ flat_map f (take (i + 1) xs)
written_more f xs i one old new lt is so_far e =
    let more : take (i + 1) xs ≡ take i xs ++ one ∷ [] = take_more xs i one lt ∙ ap (λ x. take i xs ++ x ∷ []) (sym is) in
    e ∙ ap (λ t. t ++ f one) so_far ∙ sym (ap (flat_map f) more ∙ flat_map-append f (take i xs) (one ∷ []) ∙ ap (λ t. flat_map f (take i xs) ++ t) (append-nil (f one)))

pub loop-explained-init : goal.loop-explained-init
loop-explained-init c = c.new-text.ensures.bytes

pub loop-explained-preserved : goal.loop-explained-preserved
loop-explained-preserved c =
    written_more explained_line c.args.nodes.now c.loop-explained.explained-index c.explained-item.result (string_bytes c.loop-explained.text) (string_bytes c.push_explained.new.output) c.loop-explained-test.true c.explained-item.is c.loop-explained.invariant c.in_ok-push_explained.ensures

pub returns : goal.returns
returns c =
    let end : c.loop-explained.explained-index ≡ length c.args.nodes.now = omega (arith, c.loop-explained.auto.explained-index-end, c.loop-explained-test.false) in
    c.loop-explained.invariant ∙ ap (λ n. flat_map explained_line (take n c.args.nodes.now)) end ∙ ap (flat_map explained_line) (take-length c.args.nodes.now)
