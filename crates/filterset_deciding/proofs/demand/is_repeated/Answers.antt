use Rattle.std.proofs.Common.{rules, arith, ◌≡◌, ◌<◌, ◌∙◌, length, get_or, sym}
use Rattle.filterset_matchers.specs.Equality.{compared, same_compared_Decides}
use Rattle.filterset_deciding.specs.Texts.{matcher_in}
use Rattle.filterset_deciding.proofs.Doubts.{contains_at}
use Rattle.filterset_deciding.proofs.demand.is_repeated.Goals as goal

pub returns-then-demand-other : goal.returns-then-demand-other
returns-then-demand-other c = λ e.
    let kept = c.args.kept.now in
    let i = c.loop-other.other-index in
    let d = c.other-item.result in
    let lt : i < length kept = omega (arith, c.loop-other-test.true) in
    let at : get_or kept i d ≡ d = search (rules, c.other-item.is) in
    let alike : d.is_matched ≡ c.args.demand.is_matched = search rules in
    (d, contains_at kept i d lt at, alike, sym ((same_compared_Decides (compared (matcher_in c.args.demand)) (compared (matcher_in d))).0 (sym c.eq.ensures ∙ c.if-eq.true)))
