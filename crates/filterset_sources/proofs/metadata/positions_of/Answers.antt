use Rattle.std.proofs.Common.{◌≡◌, ◌++◌, sym, ◌∙◌}
use Rattle.std.specs.Prelude.{codes}
use Rattle.filterset_json.specs.Places.{Place}
use Rattle.filterset_sources.specs.{Metadata.Repeats, Shape.item_path}
use Rattle.filterset_sources.proofs.{ShapeLemmas.Refuses-if, GraphLemmas.repeated_at, GraphLemmas.placed_more}
use Rattle.filterset_sources.proofs.metadata.positions_of.Goals as goal

pub returns-then-is_some-clause-refused : goal.returns-then-is_some-clause-refused
returns-then-is_some-clause-refused c =
    let first = repeated_at c.args.ids.now c.loop-at.at c.index-ids-at.result c.in_ok-try_clone.field-0 c.loop-at.positions c.in_ok-earlier.earlier c.loop-at-test.true c.index-ids-at.is c.in_ok-try_clone.ensures c.loop-at.invariant c.in_ok-earlier.ensures.old (sym c.is_some.ensures ∙ c.if-is_some.true) in
    let list = c.args.list.now in
    let key = c.args.key.now in
    let at = c.loop-at.at in
    Refuses-if (λ (place : Place). place ≡ (item_path list at ++ key, codes "an id that no package before it has")) (Repeats (λ i. item_path list i ++ key) c.args.ids.now)
    c.repeated_id.result (λ place is. (at, first, is)) c.repeated_id.ensures

pub loop-at-preserved : goal.loop-at-preserved
loop-at-preserved c =
    placed_more c.args.ids.now c.loop-at.at c.index-ids-at.result c.in_ok-try_clone.field-0 c.loop-at.positions c.insert.new.self c.in_ok-earlier.earlier c.loop-at-test.true c.index-ids-at.is c.in_ok-try_clone.ensures c.loop-at.invariant c.in_ok-earlier.ensures.old (sym c.is_some.ensures ∙ c.if-is_some.false) c.in_ok-earlier.ensures.updates.0
