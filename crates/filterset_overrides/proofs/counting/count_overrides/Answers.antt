use Rattle.std.proofs.Common.{◌∙◌, All, List, [], ap, map, subst, sym}
use Rattle.std.proofs.lemmas.List.{take_all}
use Rattle.filterset_expression.specs.Contexts.{default_of}
use Rattle.filterset_overrides.specs.Applying.{Text, tests_of}
use Rattle.filterset_overrides.specs.Counting.{EachAfter, IsGiven, IsRow}
use Rattle.filterset_overrides.specs.Giving.{AreDistinctOf, all_settings}
use Rattle.filterset_overrides.specs.declared.{asked.AskedOverride.AskedOverride, counting.SettingColumn.SettingColumn}
use Rattle.filterset_overrides.proofs.counting.count_overrides.Goals as goal

pub returns : goal.returns
returns c packages compiled =
    let default = default_of c.args.context.now in
    let tests = tests_of c.args.binaries.now in
    let counted = rw (take_all c.loop-binary.binary-index c.args.binaries.now c.loop-binary-test.false) at c.loop-binary.invariant in
    let applied = c.in_ok-applied.ensures.applied packages compiled in
    let asked = c.in_ok-applied.ensures.asked in
    let rows = rw c.deref.ensures.value at (c.in_ok-rows.ensures packages default tests) in
    let keys = c.in_ok-columns.ensures.keys ∙ ap (map (λ k. k.now)) c.deref-2.ensures.value in (
      subst (λ (os : List AskedOverride). EachAfter (IsRow packages default tests) [] os c.in_ok-rows.rows.items) asked (rows applied),
      subst (λ (texts : List Text). AreDistinctOf (all_settings c.args.overrides.now []) texts) (sym keys) c.in_ok-keys.ensures,
      subst (λ (os : List AskedOverride). All (λ (s : SettingColumn). EachAfter (IsGiven packages default tests s.key.now) [] os s.given.items) c.in_ok-columns.columns.items) asked
          ((rw c.deref-3.ensures.value at (c.in_ok-columns.ensures.given packages default tests)) (sym counted) applied),
    )
