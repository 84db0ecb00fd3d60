use Rattle.std.proofs.Common.{◌∷◌, [], ◌++◌, refl, subst, sym, take}
use Rattle.std.proofs.lemmas.List.{append-nil, take_all}
use Rattle.filterset_listing.proofs.ListingLemmas.{one_more}
use Rattle.filterset_listing.specs.Subjects.{AreOfName, Parts, no_parts, of_listed, of_skipped}
use Rattle.filterset_listing.proofs.SubjectLemmas.{Parts-push, more_added, of_name}
use Rattle.filterset_listing.proofs.subjects.push_binary.Goals as goal

pub loop-name-init : goal.loop-name-init
loop-name-init c default overrides are = ([], sym (append-nil _), no_parts)

pub loop-name-preserved : goal.loop-name-preserved
loop-name-preserved c default overrides are =
    let names = c.args.binary.now.tests.now in
    let i = c.loop-name.name-index in
    let name = c.name-item.result in
    let before = c.loop-name.invariant default overrides are in
    let one = c.in_ok-push_test.ensures default overrides (rw c.deref.ensures.value (c.in_ok-rows.ensures default overrides are)) in (
      before.0 ++ one.0,
      more_added _ _ _ _ _ before.1 one.1,
      rw (one_more names i name c.loop-name-test.true (sym c.name-item.is))
          (Parts-push (AreOfName default overrides c.args.binary.now.query) (take i names) name before.0 one.0 before.2 (of_name default overrides one.0 one.2 refl refl)),
    )

pub returns-then-binary : goal.returns-then-binary
returns-then-binary c default overrides are = (_ ∷ [], c.in_ok-push.ensures.items, of_skipped _ c.if-binary.true refl refl)

pub returns : goal.returns
returns c default overrides are =
    let all = c.loop-name.invariant default overrides are in
    let tests = subst (λ l. Parts (AreOfName default overrides c.args.binary.now.query) l all.0) (take_all c.loop-name.name-index c.args.binary.now.tests.now c.loop-name-test.false) all.2 in
    (all.0, all.1, of_listed c.if-binary.false tests)
