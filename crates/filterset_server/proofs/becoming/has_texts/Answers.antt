use Rattle.std.proofs.Common.{◌≡◌, ◌∙◌, [], ap, map, sym}
use Rattle.std.specs.Prelude.{unwrap_or}
use Rattle.std.proofs.lemmas.Bool.Decides.{not_from_Decides}
use Rattle.filterset_server.specs.Becoming.{AreRewritten}
use Rattle.filterset_documents.specs.Contents.{content_row}
use Rattle.filterset_server.proofs.BecomingLemmas.{decides_both, decides_neither, now_of, texts_decide}
use Rattle.filterset_server.proofs.becoming.has_texts.Goals as goal

pub returns-then-not-are_same : goal.returns-then-not-are_same
returns-then-not-are_same c =
    let content = content_row c.args.content in
    let other = content_row c.args.other in
    let others = ap (map now_of) c.as_slice.ensures.value ∙ c.in_ok-others.ensures in
    let groups = ap (map now_of) c.as_slice-2.ensures.value ∙ c.in_ok-groups.ensures in
    let decides = texts_decide c.as_slice.result.now c.as_slice-2.result.now c.eq-are_same.result c.eq-are_same.ensures in
    let unlike = not_from_Decides c.eq-are_same.result decides c.if-not-are_same.true in
    decides_neither (unwrap_or other.groups [] ≡ unwrap_or content.groups []) (AreRewritten content.rows (map now_of c.args.texts.now) other.rows)
    (λ same. unlike (others ∙ same ∙ sym groups))

pub returns : goal.returns
returns c =
    let content = content_row c.args.content in
    let other = content_row c.args.other in
    let others = ap (map now_of) c.as_slice.ensures.value ∙ c.in_ok-others.ensures in
    let groups = ap (map now_of) c.as_slice-2.ensures.value ∙ c.in_ok-groups.ensures in
    let decides = texts_decide c.as_slice.result.now c.as_slice-2.result.now c.eq-are_same.result c.eq-are_same.ensures in
    let same = decides.0 c.if-not-are_same.false in
    decides_both c.are_rewritten.result (unwrap_or other.groups [] ≡ unwrap_or content.groups []) (AreRewritten content.rows (map now_of c.args.texts.now) other.rows)
    (sym others ∙ same ∙ groups) c.are_rewritten.ensures.are c.are_rewritten.ensures.others
