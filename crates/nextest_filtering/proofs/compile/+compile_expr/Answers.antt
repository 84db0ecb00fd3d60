use Rattle.filterset_grammar.specs.Tree.{tree_leaves}
use Rattle.filterset_language.specs.Views.{tree_of}
use Rattle.nextest_filtering.specs.Compiling.{packages_of}
use Rattle.nextest_filtering.proofs.{Refusals.where_it_returns, Unmatched.added_twice}
use Rattle.nextest_filtering.proofs.compile.+compile_expr.Goals as goal

pub returns-in_ok-right-in-Union-clause-unmatched : goal.returns-in_ok-right-in-Union-clause-unmatched
returns-in_ok-right-in-Union-clause-unmatched t c =
    let left = tree_leaves (tree_of c.in-Union.left.now) in
    let right = tree_leaves (tree_of c.in-Union.right.now) in
    let new = c.compile_expr-in-Union-2.new.faults.items in
    let first = c.in_ok-left-in-Union.ensures.unmatched in
    let second = c.in_ok-right-in-Union.ensures.unmatched in
    rw c.in-Union.ensures.0 (where_it_returns c.combine.result
    (added_twice (packages_of c.args.cx.now) c.args.known_groups.now left right c.args.faults.now.items _ new first second))

pub returns-in_ok-right-in-Join-clause-unmatched : goal.returns-in_ok-right-in-Join-clause-unmatched
returns-in_ok-right-in-Join-clause-unmatched t c =
    let left = tree_leaves (tree_of c.in-Join.left.now) in
    let right = tree_leaves (tree_of c.in-Join.right.now) in
    let new = c.compile_expr-in-Join-2.new.faults.items in
    let first = c.in_ok-left-in-Join.ensures.unmatched in
    let second = c.in_ok-right-in-Join.ensures.unmatched in
    rw c.in-Join.ensures.0 (where_it_returns c.join.result
    (added_twice (packages_of c.args.cx.now) c.args.known_groups.now left right c.args.faults.now.items _ new first second))
