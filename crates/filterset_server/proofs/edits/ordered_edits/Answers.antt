use Rattle.std.proofs.Common.{rules, All, List, map, subst, sym}
use Rattle.std.proofs.lemmas.List.Sorted.{IsNonDecreasingBy-from_sort_by_key, IsPermutation-map}
use Rattle.std.proofs.lemmas.Map.Views.{All-map-IsPermutation}
use Rattle.std.specs.List.Sorted.{IsPermutation}
use Rattle.filterset_entries.specs.Checked.{text_row}
use Rattle.filterset_server.specs.Edits.{EditRow, ReplacesOne, edit_row}
use Rattle.filterset_server.specs.declared.edits.Edit.{Edit}
use Rattle.filterset_server.proofs.EditLemmas.{rewrites-replace, seen_in_order}
use Rattle.filterset_server.proofs.edits.ordered_edits.Goals as goal

pub returns-clause-replaces : goal.returns-clause-replaces
returns-clause-replaces c =
    let rows = map text_row c.args.entries.now in
    let texts = map (λ t. t.now) c.args.texts.now in
    let All_of : List EditRow → Type 0 = λ es. All (ReplacesOne rows) es in
    All-map-IsPermutation edit_row (ReplacesOne rows) c.in_ok-edits.edits.items c.sort_unstable_by_key.new.self.items
    c.sort_unstable_by_key.ensures.permutation (subst All_of (sym c.in_ok-edits.ensures) (rewrites-replace rows texts))

pub returns-clause-rewrites : goal.returns-clause-rewrites
returns-clause-rewrites c =
    let found = c.in_ok-edits.edits.items in
    let sorted = c.sort_unstable_by_key.new.self.items in
    let Is : List EditRow → Type 0 = λ es. IsPermutation es (map edit_row sorted) in (
      subst Is c.in_ok-edits.ensures (IsPermutation-map edit_row found sorted c.sort_unstable_by_key.ensures.permutation),
      seen_in_order edit_row (λ e. e.at.from) sorted
          (IsNonDecreasingBy-from_sort_by_key (λ (edit : Edit). edit.at.from) sorted c.sort_unstable_by_key.ensures.sorted (λ a r q k. search rules)),
    )
