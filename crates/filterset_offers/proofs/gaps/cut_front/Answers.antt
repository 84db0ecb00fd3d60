use Rattle.std.proofs.Common.{◌≡◌, ap, subst, sym, ◌∙◌}
use Rattle.std.specs.{List.prefix_len, Str.IsCharBoundary}
use Rattle.filterset_offers.specs.Gaps.{is_of}
use Rattle.filterset_offers.proofs.GapLemmas.{boundary-front}
use Rattle.filterset_offers.proofs.gaps.cut_front.Goals as goal

pub split_at-requires : goal.split_at-requires
split_at-requires c =
    let len : prefix_len (is_of c.args.word) c.args.text.now ≡ c.front_len-len.result =
    ap (prefix_len (is_of c.args.word)) (sym c.as_bytes.ensures.value) ∙ sym c.front_len-len.ensures.value in
    subst (IsCharBoundary c.args.text.now) len (boundary-front c.args.word c.args.text.now c.utf8.text)
