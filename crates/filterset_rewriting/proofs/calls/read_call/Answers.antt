use Rattle.std.proofs.Common.{◌≤◌, length, arith}
use Rattle.filterset_language.specs.Views.{tree_of}
use Rattle.filterset_rewriting.specs.Calls.{IsList, NoList, levels, no_list, no_operator}
use Rattle.filterset_rewriting.proofs.CallLemmas.{list_leaves}
use Rattle.filterset_rewriting.proofs.calls.read_call.Goals as goal

pub returns-in_default-clause-call : goal.returns-in_default-clause-call
returns-in_default-clause-call c = no_operator c.in_default.ensures.found

pub returns-in_ok-tree-in-Some-2-clause-within : goal.returns-in_ok-tree-in-Some-2-clause-within
returns-in_ok-tree-in-Some-2-clause-within c =
    let le : length c.in-Some-2.field-0.behind.now ≤ length c.in-Some.rest.now = rw c.in-Some-2.is at c.in_ok-tree.ensures.within in
    omega (arith, le, c.in-Some.ensures.within)

pub returns-in_ok-tree-in-Some-2-clause-reads_back : goal.returns-in_ok-tree-in-Some-2-clause-reads_back
returns-in_ok-tree-in-Some-2-clause-reads_back c =
    let are : IsList c.in-Some.link c.in-Some.rest.now (tree_of c.in-Some-2.field-0.tree) c.in-Some-2.field-0.behind.now = rw c.in-Some-2.is at c.in_ok-tree.ensures.found in
    c.in_ok-tree-in-Some-2.ensures.reads_back (list_leaves are)

pub returns-in-None-clause-call : goal.returns-in-None-clause-call
returns-in-None-clause-call c =
    let none : NoList levels c.in-Some.rest.now = rw c.in-None.is at c.in_ok-tree.ensures.found in
    no_list c.in-Some.ensures.found none
