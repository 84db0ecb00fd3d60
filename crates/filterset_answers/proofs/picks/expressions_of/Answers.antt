use Rattle.std.proofs.Common.{rules, ◌≡◌, ◌∙◌, ◌++◌, ◌∷◌, [], ap, map, subst, sym}
use Rattle.std.proofs.lemmas.Iterator.{Adapters.YieldsList-from_vec, Consumers.YieldsList-end}
use Rattle.std.proofs.lemmas.List.{map-append, map-id}
use Rattle.filterset_answers.specs.Picking.{compiled_of}
use Rattle.filterset_answers.proofs.picks.expressions_of.Goals as goal

pub loop-filterset-preserved : goal.loop-filterset-preserved
loop-filterset-preserved c =
    rw (c.in_ok-push.ensures.items, map-append compiled_of c.loop-filterset.yielded (c.in-Some.filterset ∷ []))
    (ap (λ es. es ++ compiled_of c.in-Some.filterset ∷ []) c.loop-filterset.invariant)

pub returns : goal.returns
returns c =
    let left = YieldsList-from_vec {s = c.into_iter-filterset-iterator.result} c.args.filtersets.items (search rules) (search rules) in
    let whole = YieldsList-end left c.loop-filterset.yielded c.loop-filterset.filterset-iterator c.loop-filterset.yielded_by _ c.next.new.self c.in-None.is c.next.ensures.steps in
    let all = sym (map-id c.loop-filterset.yielded) ∙ whole.0 in
    subst (λ filtersets. c.loop-filterset.exprs.items ≡ map compiled_of filtersets) all c.loop-filterset.invariant
