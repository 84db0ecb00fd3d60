use Rattle.std.proofs.Common.{Bool, IsTrue, Option, ◌↔◌, subst}
use Rattle.filterset_expression.specs.Expression.{Holds, Lookup}
use Rattle.filterset_expression.specs.{FlatExpressions.IsFlat, declared.expression.CompiledExpr.CompiledExpr}
use Rattle.filterset_overrides.specs.Applying.{HasApplication}
use Rattle.filterset_overrides.proofs.ApplyingLemmas.{applies_as}
use Rattle.filterset_overrides.proofs.applying.apply_flat.OwnLists.{reads-GroupLookup-matches_group-1-1}
use Rattle.filterset_overrides.proofs.applying.apply_flat.Goals as goal

pub returns : goal.returns
returns c packages default compiled laid =
    let query = c.args.query.now in
    let flat = c.args.flat.now in
    let answer = c.in_ok-is_picked.is_picked in
    let says = subst (λ (lookup : Lookup). (expr default : CompiledExpr) → IsFlat flat expr default → IsTrue answer ↔ Holds expr query default lookup) (reads-GroupLookup-matches_group-1-1 c.args.lookup) c.in_ok-is_picked.ensures.holds in
    let has = subst (λ (platforms : Option Bool). HasApplication (IsTrue answer) platforms c.application_of.result) c.platforms_of-platforms.ensures c.application_of.ensures in
    applies_as packages default c.args.asked.now flat query answer c.application_of.result compiled laid says has
