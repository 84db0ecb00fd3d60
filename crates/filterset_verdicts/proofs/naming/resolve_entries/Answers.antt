use Rattle.std.proofs.Common.{rules, ◌∷◌, [], Ok, map, length}
use Rattle.std.proofs.lemmas.Iterator.{Adapters.YieldsList-from_vec, Consumers.YieldsList-turn}
use Rattle.std.proofs.lemmas.{List.map-append, Result.err_from_is_err_and, Slice.Zip.all_zipped_more}
use Rattle.filterset_entries.specs.Checked.{TextRow, text_row}
use Rattle.filterset_verdicts.specs.Deciding.{LacksAny, LacksOwn, ResolvesTo}
use Rattle.filterset_verdicts.proofs.NamingLemmas.{contains_image}
use Rattle.filterset_loading.proofs.FaultLemmas.{OrMemory-weaker}
use Rattle.filterset_verdicts.proofs.naming.resolve_entries.Goals as goal

pub returns-in_err-entry-clause-missing : goal.returns-in_err-entry-clause-missing
returns-in_err-entry-clause-missing c =
    let path = c.args.known.now.request.configuration.now in
    let profiles = c.args.known.now.profiles.items in
    let entries = c.args.entries.items in
    let all = YieldsList-from_vec {s = c.into_iter-entry-iterator.result} entries (search rules) (search rules) in
    let turn = YieldsList-turn all c.loop-entry.yielded c.loop-entry.entry-iterator c.loop-entry.yielded_by _ c.next.new.self c.in-Some.entry c.in-Some.is c.next.ensures.steps in
    let among = contains_image text_row entries (length c.loop-entry.yielded) c.in-Some.entry turn in
    let error = err_from_is_err_and c.from_residual-in_err-entry.result c.from_residual-in_err-entry.ensures.1 in
    rw (error.1, error.2) (OrMemory-weaker (LacksOwn path profiles (text_row c.in-Some.entry)) (LacksAny path profiles (map text_row entries))
    (λ fault lacks. (text_row c.in-Some.entry, among, lacks)) c.in_err-entry.field-0.0 c.in_err-entry.ensures.missing)

pub loop-entry-preserved : goal.loop-entry-preserved
loop-entry-preserved c =
    let Resolves : TextRow → TextRow → Type 0 = λ row own. ResolvesTo c.args.known.now c.args.texts row (Ok own) in
    let own = rw c.in-Entry.is at c.in_ok-entry.ensures.found in
    rw (c.in_ok-push_entry-in-Entry.ensures, map-append text_row c.loop-entry.yielded (c.in-Some.entry ∷ []), map-append text_row c.loop-entry.resolved.items (c.in-Entry.entry ∷ []))
    (all_zipped_more Resolves (map text_row c.loop-entry.yielded) (map text_row c.loop-entry.resolved.items) (text_row c.in-Some.entry) (text_row c.in-Entry.entry) c.loop-entry.invariant own)

pub returns-in-Unknown-clause-found : goal.returns-in-Unknown-clause-found
returns-in-Unknown-clause-found c =
    let entries = c.args.entries.items in
    let all = YieldsList-from_vec {s = c.into_iter-entry-iterator.result} entries (search rules) (search rules) in
    let turn = YieldsList-turn all c.loop-entry.yielded c.loop-entry.entry-iterator c.loop-entry.yielded_by _ c.next.new.self c.in-Some.entry c.in-Some.is c.next.ensures.steps in
    (text_row c.in-Some.entry, contains_image text_row entries (length c.loop-entry.yielded) c.in-Some.entry turn, rw c.in-Unknown.is at c.in_ok-entry.ensures.found)
