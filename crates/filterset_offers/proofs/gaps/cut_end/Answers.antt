use Rattle.std.proofs.Common.{◌≡◌, ◌-◌, ap, length, subst, sym, ◌∙◌}
use Rattle.std.specs.{List.suffix_len, Str.IsCharBoundary}
use Rattle.filterset_offers.specs.Gaps.{is_of}
use Rattle.filterset_offers.proofs.GapLemmas.{boundary-end}
use Rattle.filterset_offers.proofs.gaps.cut_end.Goals as goal

pub split_at-requires : goal.split_at-requires
split_at-requires c =
    let text = c.args.text.now in
    let len : suffix_len (is_of c.args.word) text ≡ c.end_len-len.result =
    ap (suffix_len (is_of c.args.word)) (sym c.as_bytes.ensures.value) ∙ sym c.end_len-len.ensures.value in
    subst (IsCharBoundary text) (ap (λ n. length text - n) len) (boundary-end c.args.word text)
