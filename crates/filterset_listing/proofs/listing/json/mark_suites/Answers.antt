use Rattle.std.proofs.Common.{rules, ◌≡◌, ◌∷◌, []}
use Rattle.serde_json.specs.View.{members_view, view}
use Rattle.filterset_listing.specs.ListJson.{next_suite, no_suites}
use Rattle.filterset_listing.proofs.MarkingLemmas.{made_one, made_all, marked_object, marked_other, suite_marked}
use Rattle.filterset_listing.proofs.listing.json.mark_suites.Goals as goal

pub returns-in-Err : goal.returns-in-Err
returns-in-Err c = marked_other c.args.suites c.in-Err.other c.in-Err.ensures.other.0 c.in-Err.ensures.other.1

pub loop-id-preserved : goal.loop-id-preserved
loop-id-preserved c =
    let step : c.loop-id.id-iterator ≡ (c.in-Some.id, c.in-Some.suite) ∷ c.next.new.self = search (rules, c.in-Some.ensures.steps) in
    made_one _ c.loop-id.marked.entries c.loop-id.id-iterator c.next.new.self c.put_in.new.members.entries c.in-Some.id c.in-Some.suite c.in_ok-suite.suite
    c.loop-id.invariant step c.in_ok-put_in.ensures
    (λ later marks. next_suite (suite_marked _ c.in_ok-answers.answers.0 c.in_ok-answers.ensures c.in_ok-suite.ensures)
    (rw (← c.other_picks-left.ensures, ← c.other_picks-beyond.ensures) marks))

pub returns : goal.returns
returns c =
    let all = c.into_iter-id-iterator.result in
    let same : all ≡ c.in-Ok.suites.entries = search rules in
    let end : c.loop-id.id-iterator ≡ [] = search (rules, c.in-None.ensures.steps) in
    marked_object (view c.args.suites) (members_view all) c.loop-id.marked (rw same c.in-Ok.ensures.members) (made_all _ _ _ _ _ c.loop-id.invariant end no_suites)
