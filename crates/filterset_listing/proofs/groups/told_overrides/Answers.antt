use Rattle.std.proofs.Common.{arith, ◌∙◌, Some, None, true, cond, map, ap, refl, subst, sym}
use Rattle.std.proofs.lemmas.List.{take_all}
use Rattle.filterset_listing.specs.Overrides.{IsLaid, SameGroups, given_of}
use Rattle.filterset_listing.specs.declared.groups.FlatOverride.{FlatOverride}
use Rattle.filterset_listing.proofs.GroupLemmas.{all_stand, never_applied, never_told, one_left, one_told, sure_of, told_of}
use Rattle.filterset_listing.proofs.ListingLemmas.{is_no_alone}
use Rattle.filterset_listing.proofs.groups.told_overrides.Goals as goal

pub loop-laid-preserved-then-is_no : goal.loop-laid-preserved-then-is_no
loop-laid-preserved-then-is_no c = λ default are.
    let all = c.args.all.now in
    let laid = c.laid-item.result in
    let none = (is_no_alone c.applies-applies.result).0 (sym c.is_no.ensures ∙ c.if-is_no.true) in
    one_left default c.args.query.now all c.loop-laid.laid-index laid c.loop-laid.rows.items (omega (arith, c.loop-laid-test.true)) (sym c.laid-item.is)
    (never_applied default laid.given c.args.query.now (sym c.applies-applies.ensures ∙ none)) (c.loop-laid.invariant default are)

pub loop-laid-preserved-then-is_no-2 : goal.loop-laid-preserved-then-is_no-2
loop-laid-preserved-then-is_no-2 c = λ default are.
    let all = c.args.all.now in
    let i = c.loop-laid.laid-index in
    let laid = c.laid-item.result in
    let told = told_of default laid c.args.query.now c.in_ok-told.told (subst (IsLaid default) (sym c.laid-item.is) (are i laid c.loop-laid-test.true)) c.in_ok-told.ensures.told in
    one_left default c.args.query.now all i laid c.loop-laid.rows.items c.loop-laid-test.true (sym c.laid-item.is)
    (never_told default laid.given c.args.query.now c.in_ok-told.told told ((is_no_alone c.in_ok-told.told).0 (sym c.is_no-in-loop-laid.ensures ∙ c.if-is_no-2.true))) (c.loop-laid.invariant default are)

pub loop-laid-preserved : goal.loop-laid-preserved
loop-laid-preserved c = λ default are.
    let all = c.args.all.now in
    let query = c.args.query.now in
    let i = c.loop-laid.laid-index in
    let laid = c.laid-item.result in
    let is = subst (IsLaid default) (sym c.laid-item.is) (are i laid c.loop-laid-test.true) in
    let told = told_of default laid query c.in_ok-told.told is c.in_ok-told.ensures.told in
    let sure = sym c.applies-applies.ensures ∙ sure_of c.applies-applies.result (sym c.is_no.ensures ∙ c.if-is_no.false) ∙ ap (λ b. cond b (Some true) None) (sym c.is_some.ensures) in
    one_told default query all i laid c.loop-laid.rows.items _ _ c.loop-laid-test.true (sym c.laid-item.is) c.in_ok-push.ensures.items refl (is, told, sure) (c.loop-laid.invariant default are)

pub returns : goal.returns
returns c default overrides are =
    let all = c.args.all.now in
    let rows = c.loop-laid.rows.items in
    let kept = c.loop-laid.invariant default are.1 in
    let stand = rw (take_all c.loop-laid.laid-index all c.loop-laid-test.false) at kept.1 in
    (kept.0, subst (λ os. SameGroups default c.args.query.now os (map given_of rows)) are.0 (all_stand default c.args.query.now (map (λ (f : FlatOverride). f.given) all) (map given_of rows) stand))
