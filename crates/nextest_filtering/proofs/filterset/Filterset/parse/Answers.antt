use Rattle.std.proofs.Common.{◌∙◌, rules, string_bytes, subst, IsUtf8}
use Rattle.filterset_faults.specs.declared.kind.FiltersetKind.{FiltersetKind}
use Rattle.filterset_language.specs.Views.{tree_of}
use Rattle.nextest_filtering.specs.{Bans.IsAllowed, Compiling.packages_of, Compiling.IsRefusedWith}
use Rattle.nextest_filtering.proofs.{Banned.no_default, Banned.no_group, FaultsOfTrees.refused_stand}
use Rattle.nextest_filtering.proofs.Refusals.{of_tree, of_filterset}
use Rattle.filterset_expression.proofs.BinaryMeanings.{tells_the_same}
use Rattle.filterset_expression.proofs.Meanings.{says_the_same, same_defaults, same_groups}
use Rattle.nextest_filtering.proofs.filterset.Filterset.parse.Goals as goal

pub returns-in-Ok-clause-meaning : goal.returns-in-Ok-clause-meaning
returns-in-Ok-clause-meaning c = says_the_same (packages_of c.args.cx.now) (tree_of c.in-Ok.parsed) c.in-Ok.compiled c.in-Ok.ensures.compiled

pub returns-in-Ok-clause-binaries : goal.returns-in-Ok-clause-binaries
returns-in-Ok-clause-binaries c = tells_the_same (packages_of c.args.cx.now) (tree_of c.in-Ok.parsed) c.in-Ok.compiled c.in-Ok.ensures.compiled

pub returns-in-Ok-clause-defaults : goal.returns-in-Ok-clause-defaults
returns-in-Ok-clause-defaults c = same_defaults (packages_of c.args.cx.now) (tree_of c.in-Ok.parsed) c.in-Ok.compiled c.in-Ok.ensures.compiled

pub returns-in-Ok-clause-groups : goal.returns-in-Ok-clause-groups
returns-in-Ok-clause-groups c = same_groups (packages_of c.args.cx.now) (tree_of c.in-Ok.parsed) c.in-Ok.compiled c.in-Ok.ensures.compiled

pub returns-in-Ok-clause-no_default : goal.returns-in-Ok-clause-no_default
returns-in-Ok-clause-no_default c = λ is.
    let e = tree_of c.in-Ok.parsed in
    same_defaults (packages_of c.args.cx.now) e c.in-Ok.compiled c.in-Ok.ensures.compiled ∙ no_default e (subst (λ (kind : FiltersetKind). IsAllowed kind e) is c.in-Ok.ensures.accepted.allowed)

pub returns-in-Ok-clause-no_group : goal.returns-in-Ok-clause-no_group
returns-in-Ok-clause-no_group c = λ apart.
    let e = tree_of c.in-Ok.parsed in
    same_groups (packages_of c.args.cx.now) e c.in-Ok.compiled c.in-Ok.ensures.compiled ∙ no_group c.args.kind apart e c.in-Ok.ensures.accepted.allowed

pub returns-in-Err-Faults-clause-spelled : goal.returns-in-Err-Faults-clause-spelled
returns-in-Err-Faults-clause-spelled c =
    let text = string_bytes c.args.input in
    let packages = packages_of c.args.cx.now in
    let faults = c.in-Err-Faults.errors.items in
    let refused : IsRefusedWith text c.args.kind packages c.args.known_groups.now faults = search rules in λ e spells. of_tree text c.args.kind packages c.args.known_groups.now faults e spells refused

pub returns-in-Err-Faults-clause-complete : goal.returns-in-Err-Faults-clause-complete
returns-in-Err-Faults-clause-complete c =
    let text = string_bytes c.args.input in
    let packages = packages_of c.args.cx.now in
    let faults = c.in-Err-Faults.errors.items in
    let refused : IsRefusedWith text c.args.kind packages c.args.known_groups.now faults = search rules in λ e is. of_filterset text c.args.kind packages c.args.known_groups.now faults e is refused

pub returns-in-Err-Faults-clause-stand : goal.returns-in-Err-Faults-clause-stand
returns-in-Err-Faults-clause-stand c =
    let text = string_bytes c.args.input in
    let packages = packages_of c.args.cx.now in
    let faults = c.in-Err-Faults.errors.items in
    let refused : IsRefusedWith text c.args.kind packages c.args.known_groups.now faults = search rules in
    let utf8 : IsUtf8 text = search (rules, c.as_str.utf8) in
    refused_stand text c.args.kind packages c.args.known_groups.now faults utf8 refused
