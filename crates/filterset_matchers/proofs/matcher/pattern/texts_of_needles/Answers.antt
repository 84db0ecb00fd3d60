use Rattle.std.proofs.Common.{◌≡◌, ◌+◌, List, [], ◌∷◌, ◌++◌, ℕ, Vec, Global, IsUtf8, map, take, string_bytes, sym, ap, ◌∙◌}
use Rattle.std.proofs.lemmas.List.{map_push, take_more, Elements.All-push, Elements.All-same}
use Rattle.filterset_matchers.proofs.matcher.pattern.texts_of_needles.Goals as goal

pub loop-needle-preserved : goal.loop-needle-preserved
loop-needle-preserved c =
    let i = c.loop-needle.needle-index in
    let needle = c.needle-item.result in
    let bytes_of : Vec ℕ Global → List ℕ = λ n. n.items in
    let text = c.in_ok-from_str.field-0 in
    let here : string_bytes text ≡ needle.items = c.in_ok-from_str.ensures.ok ∙ c.in-Ok.ensures.cases.0 ∙ c.deref.ensures.value in
    let grown : map string_bytes c.push.new.self.items ≡ map string_bytes c.loop-needle.texts.items ++ needle.items ∷ [] =
    ap (map string_bytes) c.in_ok-push.ensures.items ∙ map_push string_bytes c.loop-needle.texts.items text
    ∙ ap (λ x. map string_bytes c.loop-needle.texts.items ++ x ∷ []) here in
    let further : map bytes_of (take (i + 1) c.args.needles.now) ≡ map bytes_of (take i c.args.needles.now) ++ needle.items ∷ [] =
    ap (map bytes_of) (take_more c.args.needles.now i needle c.loop-needle-test.true ∙ ap (λ x. take i c.args.needles.now ++ x ∷ []) (sym c.needle-item.is))
    ∙ map_push bytes_of (take i c.args.needles.now) needle in
    record {
      same = grown ∙ ap (λ xs. xs ++ needle.items ∷ []) c.loop-needle.invariant.same ∙ sym further;
      utf8 = All-same IsUtf8 _ _ grown (All-push IsUtf8 _ _ c.loop-needle.invariant.utf8 (rw c.deref.ensures.value at c.in-Ok.ensures.cases.1));
    }
