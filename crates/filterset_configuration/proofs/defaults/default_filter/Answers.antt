use Rattle.std.proofs.Common.{ap, map, ◌∙◌}
use Rattle.std.specs.Prelude.{not}
use Rattle.filterset_configuration.proofs.OverrideDefaults.{set_by_override}
use Rattle.filterset_configuration.proofs.defaults.default_filter.Goals as goal

pub returns-in-Some : goal.returns-in-Some
returns-in-Some c =
    set_by_override c.args.ranked.now (map (λ p. p.now) c.args.lineage.now) c.in-Some.first.now c.as_str-in-Some.result.now c.in-Some.text.now
    c.in-Some.ensures.0 (c.is_none.ensures ∙ ap not c.if-is_none.false) c.in-Some.ensures.1 c.as_str-in-Some.ensures.value
    c.set_at.result c.set_at.ensures
