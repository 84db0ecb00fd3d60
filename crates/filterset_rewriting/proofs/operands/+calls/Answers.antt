use Rattle.std.proofs.Common.{◌<◌, length, true, false, arith, rules}
use Rattle.filterset_language.specs.Views.{tree_of}
use Rattle.filterset_rewriting.specs.Calls.{IsFront, IsOperand, NoFront, NoOperand, end_sign, no_first, no_more, no_open, nothing, one_alone, one_more}
use Rattle.filterset_rewriting.proofs.OperandLemmas.{deep, ended, front_called, front_expressed, last_joined, list_told, more_joined, operand_told, within_more}
use Rattle.filterset_rewriting.proofs.operands.+calls.Goals as goal

pub join_operands-returns-in_default-clause-found : goal.join_operands-returns-in_default-clause-found
join_operands-returns-in_default-clause-found t c =
    let none : NoOperand c.args.levels c.loop-tree.rest.now = rw c.in_default.is at c.in_ok-operand.ensures.found in
    c.loop-tree.invariant.unclosed (no_more none)

pub join_operands-returns-then-is_last-clause-found : goal.join_operands-returns-then-is_last-clause-found
join_operands-returns-then-is_last-clause-found t c =
    let x = c.in-Some.operand in
    let is : IsOperand c.loop-tree.rest.now (tree_of x.tree) (end_sign x.is_last) x.behind.now = rw c.in-Some.is at c.in_ok-operand.ensures.found in
    c.loop-tree.invariant.joined (tree_of c.in_ok-tree.tree) x.behind.now
    (last_joined c.args.link (tree_of c.loop-tree.tree) (tree_of x.tree) (tree_of c.in_ok-tree.tree) c.loop-tree.rest.now x.behind.now
    (ended x.is_last true c.loop-tree.rest.now x.behind.now (tree_of x.tree) c.if-is_last.true is) c.in_ok-tree.ensures)

pub join_operands-loop-tree-preserved : goal.join_operands-loop-tree-preserved
join_operands-loop-tree-preserved t c =
    let x = c.in-Some.operand in
    let is : IsOperand c.loop-tree.rest.now (tree_of x.tree) (end_sign x.is_last) x.behind.now = rw c.in-Some.is at c.in_ok-operand.ensures.found in
    let at = ended x.is_last false c.loop-tree.rest.now x.behind.now (tree_of x.tree) c.if-is_last.false is in
    let less : length x.behind.now < length c.loop-tree.rest.now = rw c.in-Some.is at c.in_ok-operand.ensures.shorter in
    record {
      utf8 = search rules;
      joined = λ e behind are. c.loop-tree.invariant.joined e behind (more_joined c.args.link (tree_of c.loop-tree.tree) (tree_of x.tree) (tree_of c.in_ok-tree.tree) c.loop-tree.rest.now x.behind.now at c.in_ok-tree.ensures e behind are);
      unclosed = λ still. c.loop-tree.invariant.unclosed (one_more at still);
      within = omega (arith, c.loop-tree.invariant.within, less);
    }

pub read_front-returns-then-levels-eq0-clause-found : goal.read_front-returns-then-levels-eq0-clause-found
read_front-returns-then-levels-eq0-clause-found t c =
    deep c.args.levels c.args.text.now c.in-Some.rest.now c.in-Some.link c.if-levels-eq0.true c.in-Some.ensures.found

pub read_front-returns-else-levels-eq0-clause-found : goal.read_front-returns-else-levels-eq0-clause-found
read_front-returns-else-levels-eq0-clause-found t c =
    front_called c.args.levels c.args.text.now c.in-Some.rest.now c.in-Some.link c.in-Some.ensures.found (omega arith) c.read_list.result c.read_list.ensures.found

pub read_front-returns-else-levels-eq0-clause-within : goal.read_front-returns-else-levels-eq0-clause-within
read_front-returns-else-levels-eq0-clause-within t c =
    within_more c.read_list.result (length c.in-Some.rest.now) (length c.args.text.now) c.in-Some.ensures.within c.read_list.ensures.within

pub read_front-returns-in-None-clause-found : goal.read_front-returns-in-None-clause-found
read_front-returns-in-None-clause-found t c =
    front_expressed c.args.levels c.args.text.now c.in-None.ensures.found c.read_expression.result c.read_expression.ensures.found

pub read_operand-returns-in-Some-clause-found : goal.read_operand-returns-in-Some-clause-found
read_operand-returns-in-Some-clause-found t c =
    let f = c.in-Some.front in
    let is : IsFront c.args.text.now (tree_of f.tree) f.behind.now = rw c.in-Some.is at c.in_ok-front.ensures.found in
    operand_told c.args.levels c.args.text.now f.behind.now (tree_of f.tree) c.end_operand.result is c.end_operand.ensures.found

pub read_operand-returns-in-None-clause-found : goal.read_operand-returns-in-None-clause-found
read_operand-returns-in-None-clause-found t c =
    let none : NoFront c.args.levels c.args.text.now = rw c.in-None.is at c.in_ok-front.ensures.found in
    nothing none

pub read_list-returns-in_default-clause-found : goal.read_list-returns-in_default-clause-found
read_list-returns-in_default-clause-found t c = no_open c.in_default.ensures.found

pub read_list-returns-in_default-2-clause-found : goal.read_list-returns-in_default-2-clause-found
read_list-returns-in_default-2-clause-found t c =
    let none : NoOperand c.args.levels c.in-Some.inside.now = rw c.in_default-2.is at c.in_ok-operand.ensures.found in
    no_first c.in-Some.ensures.found none

pub read_list-returns-then-is_last-clause-found : goal.read_list-returns-then-is_last-clause-found
read_list-returns-then-is_last-clause-found t c =
    let x = c.in-Some-2.operand in
    let inside = c.in-Some.inside.now in
    let is : IsOperand inside (tree_of x.tree) (end_sign x.is_last) x.behind.now = rw c.in-Some-2.is at c.in_ok-operand.ensures.found in
    one_alone c.in-Some.ensures.found (ended x.is_last true inside x.behind.now (tree_of x.tree) c.if-is_last.true is)

pub read_list-returns-clause-found : goal.read_list-returns-clause-found
read_list-returns-clause-found t c =
    let x = c.in-Some-2.operand in
    let inside = c.in-Some.inside.now in
    let is : IsOperand inside (tree_of x.tree) (end_sign x.is_last) x.behind.now = rw c.in-Some-2.is at c.in_ok-operand.ensures.found in
    list_told c.args.levels c.args.text.now inside x.behind.now c.args.link (tree_of x.tree) c.in-Some.ensures.found
    (ended x.is_last false inside x.behind.now (tree_of x.tree) c.if-is_last.false is) c.join_operands.result c.join_operands.ensures.found
