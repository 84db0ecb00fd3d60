use Rattle.std.proofs.Common.{rules, ◌≡◌, ◌∷◌, [], subst}
use Rattle.serde_json.specs.View.{members_view, view}
use Rattle.filterset_listing.specs.ListJson.{next_member, no_member}
use Rattle.filterset_listing.proofs.MarkingLemmas.{made_one, made_all, marked_object, marked_other}
use Rattle.filterset_listing.proofs.listing.json.mark_each.Goals as goal

pub returns-in-Err : goal.returns-in-Err
returns-in-Err g c = marked_other c.args.value c.in-Err.other c.in-Err.ensures.other.0 c.in-Err.ensures.other.1

pub loop-name-preserved : goal.loop-name-preserved
loop-name-preserved g c =
    let step : c.loop-name.name-iterator ≡ (c.in-Some.name, c.in-Some.value) ∷ c.next.new.self = search (rules, c.in-Some.ensures.steps) in
    let marks = subst (λ name. g.M.Mark.marks c.args.mark.now name (view c.in-Some.value) (view c.in_ok-value.value)) c.as_str.ensures.value c.in_ok-value.ensures in
    made_one _ c.loop-name.marked.entries c.loop-name.name-iterator c.next.new.self c.put_in.new.members.entries c.in-Some.name c.in-Some.value c.in_ok-value.value
    c.loop-name.invariant step c.in_ok-put_in.ensures (λ later others. next_member marks others)

pub returns : goal.returns
returns g c =
    let all = c.into_iter-name-iterator.result in
    let same : all ≡ c.in-Ok.members.entries = search rules in
    let end : c.loop-name.name-iterator ≡ [] = search (rules, c.in-None.ensures.steps) in
    marked_object (view c.args.value) (members_view all) c.loop-name.marked (rw same c.in-Ok.ensures.members) (made_all _ _ _ _ _ c.loop-name.invariant end no_member)
