use Rattle.std.proofs.Common.{◌∙◌, ap, refl, subst, sym}
use Rattle.filterset_expression.specs.{Contexts.default_of, FlatExpressions.IsFlat}
use Rattle.filterset_expression.specs.declared.expression.CompiledExpr.{CompiledExpr}
use Rattle.filterset_listing.proofs.GroupLemmas.{one_laid, or_all}
use Rattle.filterset_listing.proofs.groups.lay_out.Goals as goal

pub loop-given-preserved : goal.loop-given-preserved
loop-given-preserved c =
    let overrides = c.args.overrides.now in
    let i = c.loop-given.given-index in
    let given = c.given-item.result in
    let default = default_of c.args.context.now in
    let filter = ap (λ f. f.now) c.unwrap_or.ensures ∙ or_all given.filter c.args.all c.requires in
    one_laid default overrides i given c.loop-given.laid.items c.push.new.self.items (record { given = given; filter = c.in_ok-filter.filter }) c.loop-given-test.true (sym c.given-item.is) c.in_ok-push.ensures.items refl
    (subst (λ (e : CompiledExpr). IsFlat c.in_ok-filter.filter e default) filter c.in_ok-filter.ensures.flat) c.loop-given.invariant
