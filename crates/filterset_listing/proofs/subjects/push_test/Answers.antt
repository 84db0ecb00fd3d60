use Rattle.std.proofs.Common.{◌∙◌, ◌+◌, ◌∷◌, [], ◌++◌, Some, None, ap, cond, drop, map, refl, subst, sym, true}
use Rattle.std.proofs.lemmas.{Bool.false≢true, List.append-nil, List.drop_all}
use Rattle.filterset_listing.specs.Overrides.{MayApply, given_of}
use Rattle.filterset_listing.proofs.SubjectLemmas.{Walked, begins, ended, left_from, more_added, opened, passed, surely}
use Rattle.filterset_listing.proofs.subjects.push_test.Goals.{then-branch+in_ok-push+else-row, else-branch}
use Rattle.filterset_listing.proofs.subjects.push_test.Goals as goal

pub loop-row-init : goal.loop-row-init
loop-row-init c default overrides told =
    ([], sym (append-nil _), begins default overrides c.args.test (map given_of c.args.rows.now) (told.1 c.args.test refl))

pub returns : goal.returns
returns c default overrides told =
    let test = c.args.test in
    let rows = c.args.rows.now in
    let before = c.loop-row.invariant default overrides told in
    let none = drop_all c.loop-row.row-index rows c.loop-row-test.false in
    let walked = subst (λ l. Walked default overrides test before.0 c.loop-row.path (map given_of l)) none before.2 in
    let done = ended default overrides test before.0 _ c.loop-row.path walked refl refl in
    (before.0 ++ _ ∷ [], more_added _ _ _ _ _ before.1 c.in_ok-push-2.ensures.items, done.0, done.1)

pub loop-row-preserved : goal.loop-row-preserved
loop-row-preserved c default overrides told =
    let test = c.args.test in
    let rows = c.args.rows.now in
    let i = c.loop-row.row-index in
    let row = c.row-item.result in
    let before = c.loop-row.invariant default overrides told in
    let may : MayApply default test.binary_query row = subst (MayApply default test.binary_query) (sym c.row-item.is) (told.0 i row c.loop-row-test.true) in
    let walked = subst (Walked default overrides test before.0 c.loop-row.path) (left_from rows i row c.loop-row-test.true (sym c.row-item.is)) before.2 in
    let left = map given_of (drop (i + 1) rows) in
    let covers = c.in_ok-covers.ensures default may in
    elim c.if-branch.branch [
      | then-branch+in_ok-push+else-row w ↦
          let unknown = may.2 ∙ ap (λ b. cond b (Some true) None) w.if-row.false in
          let done = opened default overrides test before.0 _ (given_of row) left (covers.0 w.if-branch.true) refl refl c.loop-row.path walked unknown in
          rw (w.subjects-is, w.path-is, w.unwrap_or.ensures) (before.0 ++ _ ∷ [], more_added _ _ _ _ _ before.1 w.in_ok-push.ensures.items, done)
      | else-branch w ↦
          rw (w.subjects-is, w.path-is) (before.0, before.1, passed default overrides test before.0 c.loop-row.path (given_of row) left (λ is. false≢true (sym w.if-branch.false ∙ covers.1 is)) walked)
    ]

pub returns-then-row : goal.returns-then-row
returns-then-row c default overrides told =
    let test = c.args.test in
    let rows = c.args.rows.now in
    let i = c.loop-row.row-index in
    let row = c.row-item.result in
    let before = c.loop-row.invariant default overrides told in
    let may : MayApply default test.binary_query row = subst (MayApply default test.binary_query) (sym c.row-item.is) (told.0 i row c.loop-row-test.true) in
    let walked = subst (Walked default overrides test before.0 c.loop-row.path) (left_from rows i row c.loop-row-test.true (sym c.row-item.is)) before.2 in
    let covers = (c.in_ok-covers.ensures default may).0 c.if-branch.true in
    let done = surely default overrides test before.0 _ (given_of row) (map given_of (drop (i + 1) rows)) covers refl refl c.loop-row.path walked (may.2 ∙ ap (λ b. cond b (Some true) None) c.if-row.true) in
    (before.0 ++ _ ∷ [], more_added _ _ _ _ _ before.1 c.in_ok-push.ensures.items, done.0, done.1)
