use Rattle.std.proofs.Common.{◌∙◌, [], Bor, List, ℕ, ap, get_or, map, refl}
use Rattle.std.proofs.lemmas.List.Elements.{All-push}
use Rattle.filterset_overrides.specs.{Applying.DoesApply, Giving.IsGiver, Giving.asked_of}
use Rattle.filterset_overrides.specs.declared.explaining.ExplainedSetting.{ExplainedSetting}
use Rattle.filterset_overrides.proofs.ListLemmas.{both_mapped}
use Rattle.filterset_overrides.proofs.explaining.explain_settings.Goals as goal

pub loop-key-preserved : goal.loop-key-preserved
loop-key-preserved c =
    let keys = c.args.keys.now in
    let i = c.loop-key.key-index in
    let none : Bor (List ℕ) = record { ref_ptr = (0, 0); now = [] } in
    let made : ExplainedSetting = record { key = get_or keys i none; giver = c.giver_of.result } in
    let settings = c.loop-key.settings.items in
    let key_of = λ (s : ExplainedSetting). s.key.now in
    record {
      keys = ap (map key_of) c.in_ok-push.ensures.items ∙ both_mapped key_of (λ (k : Bor (List ℕ)). k.now) settings made keys i none c.loop-key-test.true c.loop-key.invariant.keys refl;
      givers = λ packages default test are. rw c.in_ok-push.ensures.items (All-push
          (λ (s : ExplainedSetting). IsGiver (DoesApply packages default test) s.key.now (asked_of c.args.explained.now) c.args.profiles.now s.giver) settings made
          (c.loop-key.invariant.givers packages default test are) (c.giver_of.ensures packages default test are));
    }
