use Rattle.std.proofs.Common.{rules, arith, ◌≡◌, ◌<◌, ◌∷◌, [], length, get_or, map, take}
use Rattle.filterset_entries.specs.Checked.{text_row}
use Rattle.filterset_entries.proofs.RowsLemmas.{rows_more}
use Rattle.filterset_answers.proofs.CompilingLemmas.{compiles_both, made_more}
use Rattle.filterset_answers.proofs.compiling.compile_filters.Goals as goal

pub loop-entry-preserved : goal.loop-entry-preserved
loop-entry-preserved c =
    let compiler = c.args.compiler.now in
    let entries = c.args.entries.now in
    let i = c.loop-entry.entry-index in
    let entry = c.entry-item.result in
    let rows = map text_row (take i entries) in
    let lt : i < length entries = omega (arith, c.loop-entry-test.true) in
    let at : get_or entries i entry ≡ entry = search (rules, c.entry-item.is) in
    rw (c.in_ok-push_some.ensures, rows_more text_row entries i entry lt at)
    (compiles_both compiler rows (text_row entry ∷ []) _ _ _ _ _ _ c.loop-entry.invariant c.in_ok-made.ensures
    (λ are is. made_more compiler rows (text_row entry) c.loop-entry.filtersets.items c.in_ok-made.made are is))
