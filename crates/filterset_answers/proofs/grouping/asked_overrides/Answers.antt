use Rattle.std.proofs.Common.{rules, arith, get_or, length, refl, subst, sym, take}
use Rattle.std.proofs.lemmas.List.{length_push, take_all}
use Rattle.std.proofs.lemmas.Slice.Zip.{AllZip-long, zip_end, zip_turn}
use Rattle.filterset_answers.specs.Compiled.{IsFilterFor, IsAskedFor}
use Rattle.filterset_entries.proofs.RowsLemmas.{AllZip-push, one_more}
use Rattle.filterset_answers.proofs.GroupingLemmas.{compiled_text, zipped_at}
use Rattle.filterset_answers.proofs.grouping.asked_overrides.Goals as goal

pub loop-entry-preserved : goal.loop-entry-preserved
loop-entry-preserved c setting are =
    let entries = c.args.entries.now in
    let filters = c.args.filters.now in
    let yielded = c.loop-entry.yielded in
    let i = length yielded in
    let entry = c.in-Some.entry.now in
    let made = c.in-Some.made.now in
    let turn = zip_turn entries filters yielded c.into_iter-entry-iterator.result c.loop-entry.entry-iterator c.next.new.self c.next.result (search rules) (search rules) c.loop-entry.yielded_by
    (c.in-Some.entry, c.in-Some.made) c.in-Some.is c.next.ensures.steps in
    let at = zipped_at (IsFilterFor setting.graph.now setting.groups.now) entries filters i entry made are turn.0 in
    let is = subst (λ f. IsFilterFor setting.graph.now setting.groups.now entry f) (sym (turn.3 made)) (subst (λ e. IsFilterFor setting.graph.now setting.groups.now e (get_or filters i made)) (sym (turn.2 entry)) at) in
    let more = AllZip-push (IsAskedFor setting) (take i entries) c.loop-entry.asked.items entry (record { path = entry.path; filter = c.expression_of.result; for_target = entry.for_target; for_host = entry.for_host; settings = entry.settings }) (c.loop-entry.invariant setting are)
    (refl, refl, refl, refl, compiled_text setting entry made _ c.expression_of.ensures is) in
    rw (c.in_ok-push.ensures.items, length_push yielded (c.in-Some.entry, c.in-Some.made), one_more entries i entry turn.0 (sym (turn.2 entry))) more

pub returns : goal.returns
returns c setting are =
    let entries = c.args.entries.now in
    let filters = c.args.filters.now in
    let yielded = c.loop-entry.yielded in
    let end = zip_end entries filters yielded c.into_iter-entry-iterator.result c.loop-entry.entry-iterator c.next.new.self c.next.result (search rules) (search rules) c.loop-entry.yielded_by c.in-None.is c.next.ensures.steps in
    let long = AllZip-long (IsFilterFor setting.graph.now setting.groups.now) entries filters are in
    let all = c.loop-entry.invariant setting are in
    rw (take_all (length yielded) entries (omega (arith, end, long))) at all
