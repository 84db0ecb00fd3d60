use Rattle.std.proofs.Common.{◌≡◌, Bool, List, Option, ℕ, length, not, refl, subst, sym, ap, ◌∙◌}
use Rattle.std.specs.{Prelude.◌==◌, Prelude.◌&&◌, Prelude.is_some, List.AllZip, List.list_all}
use Rattle.std.proofs.lemmas.List.Elements.{All-push}
use Rattle.filterset_expression.specs.Contexts.{default_of}
use Rattle.filterset_overrides.specs.Applied.{IsApplied, overrides_of}
use Rattle.filterset_overrides.specs.Applying.{AppliesAs, DoesApply, IsCompiledOf, tests_of, verdict}
use Rattle.filterset_overrides.specs.{Counting.is_picked, declared.counting.applied.AppliedOverride.AppliedOverride}
use Rattle.filterset_overrides.proofs.ListLemmas.{AllZip-length, AllZip-mapped, pushed_map}
use Rattle.filterset_overrides.proofs.counting.applied.apply_all.Goals as goal

pub loop-asked-preserved : goal.loop-asked-preserved
loop-asked-preserved c =
    let all = c.args.overrides.now in
    let i = c.loop-asked.asked-index in
    let o = c.asked-item.result in
    let default = default_of c.args.context.now in
    let tests = tests_of c.args.binaries.now in
    let applications = c.in_ok-applications.applications.items in
    let answers = c.in_ok-verdicts_of.field-0 in
    let picks_all = c.picks_all.result in
    let made : AppliedOverride = record { asked = o; answers = answers; picks_all = picks_all } in
    let picks : picks_all ≡ (is_some o.filter && (not (length applications == 0) && list_all is_picked applications)) = rw c.deref-in-loop-asked.ensures.value at c.picks_all.ensures in
    record {
      asked = ap overrides_of c.in_ok-push.ensures.items ∙ pushed_map (λ (a : AppliedOverride). a.asked) c.loop-asked.all.items made all i o c.loop-asked-test.true (sym c.asked-item.is) c.loop-asked.invariant.asked refl;
      applied = λ packages compiled.
          let are = c.in_ok-applications.ensures packages (subst (IsCompiledOf packages) (sym c.asked-item.is) (compiled i o c.loop-asked-test.true)) in
          let mapped = AllZip-mapped (λ test. AppliesAs packages default test o) (λ test. DoesApply packages default test o) verdict (λ test a is. (a, is, refl)) tests applications are in
          rw c.in_ok-push.ensures.items (All-push (IsApplied packages default tests) c.loop-asked.all.items made (c.loop-asked.invariant.applied packages compiled) (
            subst (λ (vs : List (Option Bool)). AllZip (λ test. DoesApply packages default test o) tests vs) (sym (rw c.deref.ensures.value at c.in_ok-verdicts_of.ensures)) mapped,
            (
              applications,
              are,
              subst (λ (n : ℕ). picks_all ≡ (is_some o.filter && (not (n == 0) && list_all is_picked applications))) (sym (AllZip-length (λ test. AppliesAs packages default test o) tests applications are)) picks,
            ),
          ));
    }
