use Rattle.std.proofs.Common.{◌≡◌, ◌≢◌, ◌∙◌, [], Some, ap, arith, eqb-true, length, rules, subst, sym}
use Rattle.std.proofs.lemmas.List.{take_all}
use Rattle.std.specs.Prelude.{option_map}
use Rattle.filterset_language.specs.{Parsed.Reads, Views.tree_of}
use Rattle.nextest_filtering.specs.Compiling.{found, packages_of, IsStopOf}
use Rattle.nextest_filtering.proofs.Refusals.{handed_on, refuted, stopped}
use Rattle.nextest_filtering.proofs.filterset.read.Goals.{in_default-via-in-Some+else-is_empty, in_default-via-in_default}
use Rattle.nextest_filtering.proofs.filterset.read.Goals as goal

pub returns-in_default-clause-refused : goal.returns-in_default-clause-refused
returns-in_default-clause-refused c =
    let p = c.in_ok-tree.field-0 in
    let some : p.faults.items ≢ [] = elim c.in_default.branch [ in_default-via-in-Some+else-is_empty w ↦ search rules | in_default-via-in_default w ↦ search rules ] in
    found (refuted c.args.text.now p some c.in_ok-tree.ensures.stand c.in_ok-tree.ensures.spelled)

pub returns-in_err-compiled-clause-refused : goal.returns-in_err-compiled-clause-refused
returns-in_err-compiled-clause-refused c =
    let text = c.args.text.now in let kind = c.args.kind in let packages = packages_of c.args.cx.now in let groups = c.args.known_groups.now in
    let stop = c.in_err-compiled.field-0.0 in
    let p = c.in_ok-tree.field-0 in
    let zero : length p.faults.items ≡ 0 = sym p.faults.ok.0 ∙ eqb-true _ 0 (sym c.is_empty.ensures ∙ c.if-is_empty.true) in
    let none : p.faults.items ≡ [] = sym (take_all 0 p.faults.items (omega (arith, zero))) in
    let (e, comes, reads) = c.in_ok-tree.ensures.clean none in
    let is : Some (tree_of c.in-Some.parsed) ≡ Some e = ap (option_map tree_of) (sym c.in-Some.is) ∙ comes in
    let same : tree_of c.in-Some.parsed ≡ e = cc in
    let spelled : Reads text (tree_of c.in-Some.parsed) = subst (Reads text) (sym same) reads in
    handed_on c.from_residual-in_err-compiled.result stop (IsStopOf text kind packages groups) c.from_residual-in_err-compiled.ensures.1
    (stopped text kind packages groups (tree_of c.in-Some.parsed) stop spelled c.in_err-compiled.ensures.refused)
