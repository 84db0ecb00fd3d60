use Rattle.std.proofs.Common.{◌≡◌, [], true≢false, map, get_or, string_bytes, sym, ap, ◌∙◌, subst, arith}
use Rattle.std.proofs.lemmas.List.{get_or-map, get_or_default, length-map}
use Rattle.std.specs.Str.Iter.{HasSubslice}
use borrow.Author.Count.{below_more}
use Rattle.filterset_matchers.proofs.matcher.pattern.contains_any.Goals as goal

pub loop-text-preserved : goal.loop-text-preserved
loop-text-preserved c =
    let i = c.loop-text.text-index in
    let texts = c.args.texts.now in
    let text = c.text-item.result in
    let here : get_or (map string_bytes texts) i [] ≡ c.as_str.result.now =
    get_or-map string_bytes texts i text [] c.loop-text-test.true ∙ ap string_bytes (sym c.text-item.is) ∙ sym c.as_str.ensures.value in
    below_more (λ k. ¬ HasSubslice c.args.input.now (get_or (map string_bytes texts) k [])) i c.loop-text.invariant
    (λ stands. true≢false (sym (c.contains.ensures.1 (subst (HasSubslice c.args.input.now) here stands)) ∙ c.if-contains.false))

pub returns : goal.returns
returns c =
    let texts = map string_bytes c.args.texts.now in (
      λ t. absurd (true≢false (sym t)),
      λ (k, text, within, is, stands).
          absurd (c.loop-text.invariant k (omega (arith, within, length-map c.args.texts.now string_bytes))
          (subst (HasSubslice c.args.input.now) (sym is ∙ sym (get_or_default texts k [] text within)) stands)),
    )
