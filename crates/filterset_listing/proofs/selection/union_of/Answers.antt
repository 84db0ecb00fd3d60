use Rattle.std.proofs.Common.{rules, ◌∙◌, ap, sym}
use Rattle.std.proofs.lemmas.{Iterator.Adapters.YieldsList-from_vec, Iterator.Consumers.YieldsList-end, List.map-id}
use Rattle.filterset_listing.specs.Union.{union_formula}
use Rattle.filterset_listing.proofs.UnionLemmas.{more_sets}
use Rattle.filterset_listing.proofs.selection.union_of.Goals as goal

pub loop-expr-preserved : goal.loop-expr-preserved
loop-expr-preserved c =
    more_sets _ _ _ _ c.loop-expr.invariant c.in_ok-union_with.ensures

pub returns-in-Some-union : goal.returns-in-Some-union
returns-in-Some-union c =
    let left = YieldsList-from_vec {s = c.into_iter-expr-iterator.result} c.args.exprs.items (search rules) (search rules) in
    let whole = YieldsList-end left c.loop-expr.yielded c.loop-expr.expr-iterator c.loop-expr.yielded_by _ c.next.new.self c.in-None.is c.next.ensures.steps in
    let all = sym (map-id c.loop-expr.yielded) ∙ whole.0 in
    let sets = rw c.in-Some-union.is at c.loop-expr.invariant in
    sets.1 ∙ ap union_formula all
