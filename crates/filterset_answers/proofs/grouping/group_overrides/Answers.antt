use Rattle.std.proofs.Common.{rules, arith, ◌∷◌, [], filter, get_or, length, subst, sym, take}
use Rattle.std.proofs.lemmas.List.{length_push, take_all, Elements.filter-append}
use Rattle.std.proofs.lemmas.Slice.Zip.{AllZip-long, zip_end, zip_turn}
use Rattle.filterset_configuration.proofs.Zips.{zip_append}
use Rattle.filterset_answers.specs.Compiled.{IsFilterFor, IsOverrideFor, sets_group}
use Rattle.filterset_answers.proofs.GroupingLemmas.{zipped_at}
use Rattle.filterset_entries.proofs.RowsLemmas.{one_more}
use Rattle.filterset_answers.proofs.grouping.group_overrides.Goals as goal

pub loop-entry-preserved : goal.loop-entry-preserved
loop-entry-preserved c setting are =
    let entries = c.args.entries.now in
    let filters = c.args.filters.now in
    let yielded = c.loop-entry.yielded in
    let i = length yielded in
    let entry = c.in-Some.entry.now in
    let made = c.in-Some.made.now in
    let turn = zip_turn entries filters yielded c.into_iter-entry-iterator.result c.loop-entry.entry-iterator c.next.new.self c.next.result (search rules) (search rules) c.loop-entry.yielded_by
    (c.in-Some.entry, c.in-Some.made) c.in-Some.is c.next.ensures.steps in
    let at = zipped_at (IsFilterFor setting.graph.now setting.groups.now) entries filters i entry made are turn.0 in
    let is = subst (λ f. IsFilterFor setting.graph.now setting.groups.now entry f) (sym (turn.3 made)) (subst (λ e. IsFilterFor setting.graph.now setting.groups.now e (get_or filters i made)) (sym (turn.2 entry)) at) in
    let pushed = c.in_ok-push_group.ensures in
    let more = zip_append (IsOverrideFor setting) (filter sets_group (take i entries)) c.loop-entry.overrides.items (filter sets_group (entry ∷ [])) pushed.0 (c.loop-entry.invariant setting are) (pushed.2 setting is) in
    rw (pushed.1, length_push yielded (c.in-Some.entry, c.in-Some.made), one_more entries i entry turn.0 (sym (turn.2 entry)), filter-append sets_group (take i entries) (entry ∷ [])) more

pub returns : goal.returns
returns c setting are =
    let entries = c.args.entries.now in
    let filters = c.args.filters.now in
    let yielded = c.loop-entry.yielded in
    let end = zip_end entries filters yielded c.into_iter-entry-iterator.result c.loop-entry.entry-iterator c.next.new.self c.next.result (search rules) (search rules) c.loop-entry.yielded_by c.in-None.is c.next.ensures.steps in
    let long = AllZip-long (IsFilterFor setting.graph.now setting.groups.now) entries filters are in
    let all = c.loop-entry.invariant setting are in
    rw (take_all (length yielded) entries (omega (arith, end, long))) at all
