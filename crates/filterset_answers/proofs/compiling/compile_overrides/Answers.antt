use Rattle.std.proofs.Common.{rules, arith, ◌≡◌, ◌<◌, ◌∷◌, [], length, get_or, take}
use Rattle.std.specs.List.{filter_map}
use Rattle.std.proofs.lemmas.List.Elements.{filter_map-append}
use Rattle.filterset_answers.specs.Compiled.{IsFilter}
use Rattle.filterset_entries.specs.Entries.{filter_row}
use Rattle.filterset_entries.proofs.RowsLemmas.{AllZip-push, one_more}
use Rattle.filterset_answers.proofs.CompilingLemmas.{compiles_both}
use Rattle.filterset_answers.proofs.compiling.compile_overrides.Goals as goal

pub loop-entry-preserved : goal.loop-entry-preserved
loop-entry-preserved c =
    let compiler = c.args.compiler.now in
    let overrides = c.args.overrides.now in
    let i = c.loop-entry.entry-index in
    let entry = c.entry-item.result in
    let before = take i overrides in
    let lt : i < length overrides = omega (arith, c.loop-entry-test.true) in
    let at : get_or overrides i entry ≡ entry = search (rules, c.entry-item.is) in
    rw (c.in_ok-push.ensures.items, one_more overrides i entry lt at, filter_map-append filter_row before (entry ∷ []))
    (compiles_both compiler (filter_map filter_row before) (filter_map filter_row (entry ∷ [])) _ _ _ _ _ _ c.loop-entry.invariant c.in_ok-compile_filter.ensures
    (λ are is. AllZip-push (IsFilter compiler) before c.loop-entry.filters.items entry _ are is))
