use Rattle.std.proofs.Common.{◌≡◌, ◌∙◌, IfOk, inl, rules, subst}
use Rattle.std.proofs.lemmas.Result.{IfOk-weaker}
use Rattle.filterset_display.specs.Positions.{Text}
use Rattle.filterset_faults.specs.Span.{offset_of}
use Rattle.filterset_rewriting.specs.Reading.{IsRead}
use Rattle.filterset_language.specs.Views.{tree_of}
use Rattle.filterset_offers.specs.{Candidates.row_of, Gaps.gap_row, Marks.shows, Standing.text_with}
use Rattle.filterset_offers.proofs.standing.stands.Goals as goal

pub returns : goal.returns
returns c =
    let row = row_of c.args.candidate.now in
    let e = tree_of c.in-Some.tree in
    let text : c.as_str.result.now ≡ text_with row (gap_row c.args.gap.now) c.args.behind.now = c.as_str.ensures.value ∙ c.in_ok-text.ensures in
    let reads : IsRead c.as_str.result.now e = search rules in
    let shown : IfOk c.shows.result (λ answer. answer ≡ shows c.args.kind row (offset_of c.args.gap.now.at) e) = search rules in
    let Is : Text → Type 0 = λ t. IsRead t e in
    IfOk-weaker c.shows.result _ _ (λ answer is. inl (e, subst Is text reads, is)) shown
