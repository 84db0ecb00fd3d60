use Rattle.std.proofs.Common.{◌≡◌, Some, None}
use Rattle.filterset_language.proofs.Lenient.{lenient_spelled, lenient_tree, lenient_stop}
use Rattle.filterset_language.proofs.parsing.parse.ParsedExpr.parse.Goals as goal

pub returns-in-Some-clause-spelled : goal.returns-in-Some-clause-spelled
returns-in-Some-clause-spelled c =
    let a = c.in_ok-tree.tree-is in
    let b = c.in-Some.is in
    let is : c.in_ok-tree.field-0.tree ≡ Some c.in-Some.tree = cc in
    lenient_spelled c.args.input.now c.in_ok-tree.field-0 c.in_ok-tree.ensures.clean c.in_ok-tree.ensures.spelled c.in-Some.tree is

pub returns-in-Some-clause-tree : goal.returns-in-Some-clause-tree
returns-in-Some-clause-tree c =
    let a = c.in_ok-tree.tree-is in
    let b = c.in-Some.is in
    let is : c.in_ok-tree.field-0.tree ≡ Some c.in-Some.tree = cc in
    lenient_tree c.args.input.now c.in_ok-tree.field-0 c.in_ok-tree.ensures.clean c.in_ok-tree.ensures.spelled c.in-Some.tree is

pub returns-in-None-clause-stop : goal.returns-in-None-clause-stop
returns-in-None-clause-stop c =
    let a = c.in_ok-tree.tree-is in
    let b = c.in-None.is in
    let is : c.in_ok-tree.field-0.tree ≡ None = cc in
    lenient_stop c.args.input.now c.in_ok-tree.field-0 c.in_ok-tree.ensures.clean c.in_ok-tree.ensures.spelled is c.in_ok-tree.ensures.stand
