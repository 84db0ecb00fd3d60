use Rattle.std.proofs.Common.{◌∙◌, All, List, ap, map, subst, sym}
use Rattle.filterset_expression.specs.Contexts.{default_of}
use Rattle.filterset_overrides.specs.Applying.{DoesApply, Test, Text}
use Rattle.filterset_overrides.specs.Giving.{AreDistinctOf, AreExplained, IsGiver, all_settings, asked_of}
use Rattle.filterset_overrides.specs.declared.applying.ExplainedOverride.{ExplainedOverride}
use Rattle.filterset_overrides.specs.declared.asked.AskedOverride.{AskedOverride}
use Rattle.filterset_overrides.specs.declared.explaining.ExplainedSetting.{ExplainedSetting}
use Rattle.filterset_overrides.proofs.explaining.explain_overrides.Goals as goal

pub returns : goal.returns
returns c packages compiled =
    let default = default_of c.args.context.now in
    let test : Test = (c.args.query.now.binary_query, c.args.query.now.test_name.now) in
    let profiles = c.args.profiles.now in
    let asked = c.in_ok-explained.ensures.asked in
    let explained = c.in_ok-explained.ensures.explained packages compiled in
    let keys = c.in_ok-settings.ensures.keys ∙ ap (map (λ k. k.now)) c.as_slice.ensures.value in
    let rows = subst (λ (es : List ExplainedOverride). AreExplained packages default test es) (sym c.as_slice-2.ensures.value) explained in
    let givers = c.in_ok-settings.ensures.givers packages default test rows in (
      asked,
      explained,
      subst (λ (texts : List Text). AreDistinctOf (all_settings c.args.overrides.now profiles) texts) (sym keys) c.in_ok-keys.ensures,
      subst (λ (os : List AskedOverride). All (λ (s : ExplainedSetting). IsGiver (DoesApply packages default test) s.key.now os profiles s.giver) c.in_ok-settings.settings.items)
          (ap asked_of c.as_slice-2.ensures.value ∙ asked) givers,
    )
