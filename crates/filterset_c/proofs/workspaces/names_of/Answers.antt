use Rattle.std.proofs.Common.{arith, ◌≡◌, ◌+◌, ◌<◌, ◌++◌, ◌∷◌, [], ℕ, List, length, get_or, map, string_bytes, take, ◌∙◌, ap, sym}
use Rattle.std.proofs.lemmas.List.{map-append, take_more}
use Rattle.filterset_c.specs.declared.queries.Text.{Text}
use Rattle.filterset_c.proofs.workspaces.names_of.Goals as goal

pub loop-text-preserved : goal.loop-text-preserved
loop-text-preserved c =
    let xs = c.args.texts.now in
    let i = c.loop-text.text-index in
    let none : Text = record { bytes = record { ref_ptr = (0, 0); now = [] } } in
    let text = get_or xs i none in
    let name = c.in_ok-from_str.field-0 in
    let lt : i < length xs = omega (arith, c.loop-text-test.true) in
    let more : take (i + 1) xs ≡ take i xs ++ text ∷ [] = take_more xs i none lt in
    let said : List ℕ → List (List ℕ) = λ bytes. map (λ (t : Text). t.bytes.now) (take i xs) ++ bytes ∷ [] in
    rw (c.in_ok-push.ensures.items, more) (map-append (λ s. string_bytes s) c.loop-text.names.items (name ∷ [])
    ∙ ap (λ front. front ++ string_bytes name ∷ []) c.loop-text.invariant
    ∙ ap said (c.in_ok-from_str.ensures.ok ∙ c.in_ok-text_of.ensures.0)
    ∙ sym (map-append (λ (t : Text). t.bytes.now) (take i xs) (text ∷ [])))
