use Rattle.std.proofs.Common.{◌≡◌, ◌++◌, [], append-nil, ap, arith, sym, ◌∙◌}
use Rattle.std.specs.Prelude.{codes}
use Rattle.filterset_json.specs.{Places.Place, Shape.Text}
use Rattle.filterset_sources.specs.{Metadata.IsKnown, Metadata.Unknown, Shape.item_path}
use Rattle.filterset_sources.proofs.GraphLemmas.{All-done, All-next, first_not, not_known}
use Rattle.filterset_sources.proofs.ShapeLemmas.{Refuses-if}
use Rattle.filterset_sources.proofs.metadata.check_members.Goals as goal

pub returns-then-not-is_known-clause-refused : goal.returns-then-not-is_known-clause-refused
returns-then-not-is_known-clause-refused c =
    let at = c.loop-at.at in
    let first = first_not (IsKnown c.args.known.now) c.args.members.now at c.index-members-at.result c.loop-at-test.true c.index-members-at.is c.loop-at.invariant (not_known _ _ c.is_known.ensures c.if-not-is_known.true) in
    let path : Text = item_path (codes "workspace_members") at in
    let must = codes "the id of one of the packages" in
    Refuses-if (λ (place : Place). place ≡ (path ++ [], must)) (Unknown (IsKnown c.args.known.now) (item_path (codes "workspace_members")) c.args.members.now)
    c.unknown_id.result (λ place is. (at, c.index-members-at.result, first, is ∙ ap (λ (p : Text). (p, must)) (append-nil path))) c.unknown_id.ensures

pub loop-at-preserved : goal.loop-at-preserved
loop-at-preserved c = All-next (IsKnown c.args.known.now) c.args.members.now c.loop-at.at c.index-members-at.result c.loop-at-test.true c.index-members-at.is c.loop-at.invariant (sym c.is_known.ensures ∙ c.if-not-is_known.false)

pub returns-clause-ok : goal.returns-clause-ok
returns-clause-ok c = All-done (IsKnown c.args.known.now) c.args.members.now c.loop-at.at (omega (arith, c.loop-at-test.false)) c.loop-at.invariant
