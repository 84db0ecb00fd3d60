use Rattle.std.proofs.Common.{rules, ◌≡◌, ◌∙◌, Some, None, true, ap, cond, subst}
use Rattle.filterset_listing.specs.{Asking.ExprPicks, Groups.Covers, Overrides.Finishes, Overrides.given_of}
use Rattle.filterset_listing.specs.declared.groups.Seen.{Seen}
use Rattle.filterset_listing.proofs.WalkLemmas.{decided, may_of, opened, parted}
use Rattle.filterset_listing.proofs.groups.step_over.Goals as goal

pub returns-then-row : goal.returns-then-row
returns-then-row c expr default is may =
    let query = c.args.query.now in
    let over = given_of c.args.row.now in
    let covered : c.in_ok-covers.field-0 ≡ true = search (rules, c.if-not-branch.false) in
    let covers : Covers default over query = (c.in_ok-covers.ensures default may).0 covered in
    let sure = may.2 ∙ ap (λ b. cond b (Some true) None) c.if-row.true in
    decided default query (ExprPicks default expr query) over c.in_ok-answer.answer (c.in_ok-answer.ensures expr default is) (covers, sure)
    c.args.seen c.in-Known.answer c.in-Known.ensures

pub returns-else-row : goal.returns-else-row
returns-else-row c expr default is may =
    let query = c.args.query.now in
    let over = given_of c.args.row.now in
    let covered : c.in_ok-covers.field-0 ≡ true = search (rules, c.if-not-branch.false) in
    let covers : Covers default over query = (c.in_ok-covers.ensures default may).0 covered in
    let unknown = may.2 ∙ ap (λ b. cond b (Some true) None) c.if-row.false in
    let steps = opened default query (ExprPicks default expr query) over c.in_ok-answer.answer (c.in_ok-answer.ensures expr default is) (covers, unknown)
    c.args.seen c.in-Known.answer c.in-Known.ensures in
    λ rest answer finishes. steps rest answer
    (subst (λ (s : Seen). Finishes default query (ExprPicks default expr query) (Some s) rest answer) c.unwrap_or.ensures finishes)

pub returns-in-Unknown : goal.returns-in-Unknown
returns-in-Unknown c expr default is may =
    let query = c.args.query.now in
    let over = given_of c.args.row.now in
    let covered : c.in_ok-covers.field-0 ≡ true = search (rules, c.if-not-branch.false) in
    let covers : Covers default over query = (c.in_ok-covers.ensures default may).0 covered in
    parted default query (ExprPicks default expr query) over c.in_ok-answer.answer (c.in_ok-answer.ensures expr default is) covers
    (may_of c.args.row.now.is_sure _ may.2) c.args.seen c.in-Unknown.path c.in-Unknown.ensures
