use Rattle.std.proofs.Common.{◌↔◌, Bor, List, map, refl, subst, sym}
use Rattle.std.specs.{HashSet.keys, List.Contains}
use Rattle.filterset_display.specs.Columns.{Text}
use Rattle.nextest_filtering.specs.{Groups.IsGroupName, declared.compile.context.KnownGroups.KnownGroups}
use Rattle.filterset_verdicts.proofs.ListedLemmas.{group_names_known}
use Rattle.filterset_verdicts.proofs.listed.group_names.Goals as goal

pub returns-in_ok-insert-in-Known : goal.returns-in_ok-insert-in-Known
returns-in_ok-insert-in-Known c =
    let all : List (Bor Text) = c.insert.new.self.items in
    let Named : KnownGroups → Type 0 = λ groups. (name : Text) → Contains (map (λ (g : Bor Text). g.now) all) name ↔ IsGroupName groups name in
    subst Named (sym c.in-Known.is)
    (group_names_known (keys c.in-Known.custom_groups) c.in_ok-names-in-Known.names.items c.sort.new.self.items all _
    c.in_ok-names-in-Known.ensures c.in_ok-sort-in-Known.ensures.permutation c.in_ok-insert-in-Known.ensures.items refl)
