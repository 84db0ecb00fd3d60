use Rattle.std.proofs.Common.{rules, ◌≡◌, ℕ, ◌+◌, zero-add, ◌∷◌, [], ◌∙◌, sym, length, map}
use Rattle.std.proofs.lemmas.Iterator.Adapters.{YieldsList-from_vec}
use Rattle.std.proofs.lemmas.Iterator.Consumers.{YieldsList-end, YieldsList-from_enumerate, YieldsList-turn}
use Rattle.std.proofs.lemmas.List.{length-map, map-append}
use Rattle.filterset_cli.specs.{Library.background_of, Report.no_sections, Report.outcome_of}
use Rattle.filterset_cli.proofs.ReportLemmas.{Sections-push, map-pairs, number_is_position}
use Rattle.filterset_record.specs.{Rows.filterset_row, declared.record.filtersets.FiltersetEntry.FiltersetEntry}
use Rattle.filterset_cli.proofs.report.sections.report_sections.Goals as goal

pub returns : goal.returns
returns c =
    let items = c.args.filtersets.items in
    let chain = YieldsList-from_enumerate {s = c.into_iter-index-iterator.result} (YieldsList-from_vec items (cc) (cc)) (cc) in
    let whole = YieldsList-end chain c.loop-index.yielded c.loop-index.index-iterator c.loop-index.yielded_by c.next.result c.next.new.self c.in-None.is c.next.ensures.steps in
    let rows : map (λ p. filterset_row p.1) c.loop-index.yielded ≡ map filterset_row items = map-pairs filterset_row c.loop-index.yielded items whole.0 in
    let outcome : c.if-all_accepted.outcome ≡ outcome_of c.loop-index.all_accepted = search rules in
    (c.loop-index.all_accepted, rw rows at c.loop-index.invariant, outcome)

pub loop-index-init : goal.loop-index-init
loop-index-init c = rw c.new-lines.ensures.bytes no_sections

pub loop-index-preserved : goal.loop-index-preserved
loop-index-preserved c =
    let items = c.args.filtersets.items in
    let item : ℕ × FiltersetEntry = (c.in-Some.index, c.in-Some.filterset) in
    let chain = YieldsList-from_enumerate {s = c.into_iter-index-iterator.result} (YieldsList-from_vec items (cc) (cc)) (cc) in
    let turn = YieldsList-turn chain c.loop-index.yielded c.loop-index.index-iterator c.loop-index.yielded_by c.next.result c.next.new.self item c.in-Some.is c.next.ensures.steps in
    let section = c.in_ok-all_accepted.ensures in
    let row_of = λ (p : ℕ × FiltersetEntry). filterset_row p.1 in
    let rows = map row_of c.loop-index.yielded in
    let position : c.in-Some.index ≡ length c.loop-index.yielded = number_is_position items (length c.loop-index.yielded) item turn.0 turn.1 in
    let index : c.in-Some.index ≡ 0 + length rows = position ∙ sym (length-map c.loop-index.yielded row_of) ∙ sym (zero-add (length rows)) in
    let pushed = Sections-push c.args.setting.now.command (background_of c.args.setting.now) 0 rows (filterset_row c.in-Some.filterset) _ _ _ _ c.loop-index.invariant (rw index at section.1) in
    rw (map-append row_of c.loop-index.yielded (item ∷ []), section.2) pushed
